-- The index of images by name.
use Rattle.std.proofs.Common.{◌≡◌, ℕ, suc, ◌+◌, ◌<◌, ◌||◌, Bool, true, false, cond, List, [], ◌∷◌, ◌++◌, length, refl, ap, sym, ◌∙◌, arith, Option, Some, None, if◌then◌else◌, ⊎_elim}
use Rattle.std.specs.List.{list_any}
use Rattle.std.specs.Str.{bytes_eq}
use Rattle.std.specs.Ordering.{nat_cmp, is_eq}
use Rattle.std.specs.Cmp.Lexicographic.{slice_cmp}
use Rattle.std.proofs.lemmas.Bool.{cases_Bool, or_parts, false≢true}
use Rattle.std.proofs.lemmas.Map.Text.{is_eq-slice_cmp}
use Rattle.trace_model.specs.Recording.{name_at, with_name}
use Rattle.trace_laws.proofs.Images.{same_bytes, bytes_same}
use Rattle.trace_text.specs.State.{index_from}

pub record IsFound (images : List (List ℕ)) (name : List ℕ) (n i : ℕ) : Type 0 where
  pub at : ℕ
  pub is : i ≡ n + at
  pub within : at < length images
  pub named : name_at images at ≡ name
  pub known : list_any (bytes_eq name) images ≡ true

some_same : (m n : ℕ) → Some m ≡ Some n → m ≡ n
some_same m n e = cc

none_some : (n : ℕ) → None ≡ Some n → ⊥
none_some n e = cc

found_by : (b : Bool) (n : ℕ) (images : List (List ℕ)) (x name : List ℕ) (i : ℕ) → bytes_eq name x ≡ b → (if b then Some n else index_from (n + 1) images name) ≡ Some i
    → (index_from (n + 1) images name ≡ Some i → IsFound images name (n + 1) i) → IsFound (x ∷ images) name n i
found_by true n images x name i same e h = record {
  at = 0;
  is = omega (arith, some_same n i e);
  within = omega arith;
  named = sym (same_bytes name x same);
  known = ap (λ (b : Bool). b || list_any (bytes_eq name) images) same;
}
found_by false n images x name i other e h = let f = h e in record {
  at = suc f.at;
  is = omega (arith, f.is);
  within = omega (arith, f.within);
  named = f.named;
  known = ap (λ (b : Bool). b || list_any (bytes_eq name) images) other ∙ f.known;
}

-- an index that is found names the image
pub found : (n : ℕ) (images : List (List ℕ)) (name : List ℕ) (i : ℕ) → index_from n images name ≡ Some i → IsFound images name n i
found n [] name i e = absurd (none_some i e)
found n (x ∷ images) name i e = found_by (bytes_eq name x) n images x name i refl e (found (n + 1) images name i)

some_is_none : (n : ℕ) → Some n ≡ None → ⊥
some_is_none n e = cc

absent_by : (b : Bool) (n : ℕ) (images : List (List ℕ)) (name : List ℕ) → (if b then Some n else index_from (n + 1) images name) ≡ None
    → (index_from (n + 1) images name ≡ None → list_any (bytes_eq name) images ≡ false) → (b || list_any (bytes_eq name) images) ≡ false
absent_by true n images name e h = absurd (some_is_none n e)
absent_by false n images name e h = h e

-- a name with no index is none of the images
pub absent : (n : ℕ) (images : List (List ℕ)) (name : List ℕ) → index_from n images name ≡ None → list_any (bytes_eq name) images ≡ false
absent n [] name e = refl
absent n (x ∷ images) name e = absent_by (bytes_eq name x) n images name e (absent (n + 1) images name)

-- one image more
pub push_other : (n : ℕ) (images : List (List ℕ)) (x name : List ℕ) → bytes_eq name x ≡ false → index_from n (images ++ x ∷ []) name ≡ index_from n images name
push_other n [] x name h = ap (λ (b : Bool). if b then Some n else None) h
push_other n (y ∷ images) x name h = ap (λ (o : Option ℕ). if bytes_eq name y then Some n else o) (push_other (n + 1) images x name h)

pub push_same : (n : ℕ) (images : List (List ℕ)) (x : List ℕ) → list_any (bytes_eq x) images ≡ false → index_from n (images ++ x ∷ []) x ≡ Some (n + length images)
push_same n [] x h = ap (λ (b : Bool). if b then Some n else None) (bytes_same x x refl) ∙ ap (λ (k : ℕ). Some k) {x = n} {y = n + 0} (omega arith)
push_same n (y ∷ images) x h = let o = or_parts _ _ h in
    ap (λ (b : Bool). if b then Some n else index_from (n + 1) (images ++ x ∷ []) x) o.0 ∙ push_same (n + 1) images x o.1
    ∙ ap (λ (k : ℕ). Some k) {x = n + 1 + length images} {y = n + suc (length images)} (omega arith)

-- the index after one image more
pub tied_push : (images : List (List ℕ)) (x : List ℕ) (old new : List ℕ → Option ℕ) → ((q : List ℕ) → old q ≡ index_from 0 images q) → list_any (bytes_eq x) images ≡ false
    → ((q : List ℕ) → new q ≡ cond (is_eq (slice_cmp nat_cmp x q)) (Some (length images)) (old q)) → (q : List ℕ) → new q ≡ index_from 0 (images ++ x ∷ []) q
tied_push images x old new tied fresh updated q = ⊎_elim (λ same. here same) (λ other. there other) (cases_Bool (bytes_eq x q))
  where
    here : bytes_eq x q ≡ true → new q ≡ index_from 0 (images ++ x ∷ []) q
    here same = updated q ∙ ap (λ (b : Bool). cond b (Some (length images)) (old q)) (is_eq-slice_cmp x q ∙ same)
        ∙ ap (λ (k : ℕ). Some k) {x = length images} {y = 0 + length images} (omega arith)
        ∙ sym (push_same 0 images x fresh) ∙ ap (λ (n : List ℕ). index_from 0 (images ++ x ∷ []) n) (same_bytes x q same)

    flipped : bytes_eq x q ≡ false → bytes_eq q x ≡ false
    flipped other = ⊎_elim (λ e. absurd (false≢true (sym other ∙ bytes_same x q (sym (same_bytes q x e))))) (λ e. e) (cases_Bool (bytes_eq q x))

    there : bytes_eq x q ≡ false → new q ≡ index_from 0 (images ++ x ∷ []) q
    there other = updated q ∙ ap (λ (b : Bool). cond b (Some (length images)) (old q)) (is_eq-slice_cmp x q ∙ other) ∙ tied q ∙ sym (push_other 0 images x q (flipped other))

-- a name that is one of the images, and one that is not
pub with_known : (images : List (List ℕ)) (name : List ℕ) → list_any (bytes_eq name) images ≡ true → images ≡ with_name images name
with_known images name h = sym (ap (λ (b : Bool). if b then images else images ++ name ∷ []) h)

pub with_new : (images : List (List ℕ)) (name : List ℕ) → list_any (bytes_eq name) images ≡ false → images ++ name ∷ [] ≡ with_name images name
with_new images name h = sym (ap (λ (b : Bool). if b then images else images ++ name ∷ []) h)

pub last_named : (images : List (List ℕ)) (name : List ℕ) → name_at (images ++ name ∷ []) (length images) ≡ name
last_named [] name = refl
last_named (x ∷ images) name = last_named images name
