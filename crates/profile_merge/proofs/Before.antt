-- The order of profiles, as the rows of a head have it.
use Rattle.std.proofs.Common.{◌≡◌, ℕ, ◌&&◌, ◌||◌, Bool, true, false, cond, eqb, refl, sym, ap, ◌∙◌}
use Rattle.std.specs.Prelude.{nat_lt}
use Rattle.std.specs.declared.cmp.Ordering.{Ordering}
use Rattle.std.specs.declared.cmp.Ordering.TheVariants.{Less, Equal, Greater}
use Rattle.std.specs.Ordering.{nat_cmp, ordering_then, ordering_reverse, is_lt, is_eq}
use Rattle.sample_key.specs.Events.{code_of}
use Rattle.profile_merge.specs.declared.owners.Owner.{Owner}
use Rattle.profile_merge.specs.declared.owners.Owner.TheVariants.{Known, Unknown}
use Rattle.profile_merge.specs.Sums.{same_owner}
use Rattle.profile_merge.specs.Faults.{ComesBefore}
use Rattle.sample_key.proofs.Codes.{by_codes}
use Rattle.profile_merge.proofs.OwnerOrder.{owner_cmp, owner_total, same_by_cmp, same_equal}

then_is : (t u : Bool) (o : Ordering) → is_lt (ordering_then (cond t Less (cond u Equal Greater)) o) ≡ (t || (u && is_lt o))
then_is true u o = refl
then_is false true o = refl
then_is false false o = refl

then_less : (x y : ℕ) (o : Ordering) → is_lt (ordering_then (nat_cmp x y) o) ≡ (nat_lt x y || (eqb x y && is_lt o))
then_less x y o = then_is (nat_lt x y) (eqb x y) o

less_is : (t u : Bool) → is_lt (cond t Less (cond u Equal Greater)) ≡ t
less_is true u = refl
less_is false true = refl
less_is false false = refl

number_less : (x y : ℕ) → is_lt (nat_cmp x y) ≡ nat_lt x y
number_less x y = less_is (nat_lt x y) (eqb x y)

of_less : (o : Ordering) → is_lt o ≡ true → o ≡ Less
of_less Less is = refl
of_less Equal is = cc
of_less Greater is = cc

pub comes_less : (a b : Owner) → ComesBefore a b → owner_cmp a b ≡ Less
comes_less (Known e i v) (Known f j w) before = of_less _
    (then_less e f _
    ∙ ap (λ (t : Bool). nat_lt e f || (eqb e f && t)) (then_less i j _)
    ∙ ap (λ (t : Bool). nat_lt e f || (eqb e f && (nat_lt i j || (eqb i j && t)))) (ap is_lt (by_codes v w) ∙ number_less (code_of v) (code_of w))
    ∙ before)
comes_less (Known e i v) (Unknown f w) before = refl
comes_less (Unknown e v) (Known f j w) before = absurd before
comes_less (Unknown e v) (Unknown f w) before = of_less _
    (then_less e f _ ∙ ap (λ (t : Bool). nat_lt e f || (eqb e f && t)) (ap is_lt (by_codes v w) ∙ number_less (code_of v) (code_of w)) ∙ before)

pub less_comes : (a b : Owner) → owner_cmp a b ≡ Less → ComesBefore a b
less_comes (Known e i v) (Known f j w) less =
    sym (then_less e f _
    ∙ ap (λ (t : Bool). nat_lt e f || (eqb e f && t)) (then_less i j _)
    ∙ ap (λ (t : Bool). nat_lt e f || (eqb e f && (nat_lt i j || (eqb i j && t)))) (ap is_lt (by_codes v w) ∙ number_less (code_of v) (code_of w)))
    ∙ ap is_lt less
less_comes (Known e i v) (Unknown f w) less = tt
less_comes (Unknown e v) (Known f j w) less = cc
less_comes (Unknown e v) (Unknown f w) less =
    sym (then_less e f _ ∙ ap (λ (t : Bool). nat_lt e f || (eqb e f && t)) (ap is_lt (by_codes v w) ∙ number_less (code_of v) (code_of w))) ∙ ap is_lt less

-- none comes before another that comes before it, or before itself
pub not_both : (a b : Owner) → owner_cmp a b ≡ Less → owner_cmp b a ≡ Less → ⊥
not_both a b one two =
    let back : owner_cmp a b ≡ Greater = owner_total.antisymm a b ∙ ap ordering_reverse two in
    let wrong : Less ≡ Greater = sym one ∙ back in
    absurd cc

pub less_apart : (a b : Owner) → owner_cmp a b ≡ Less → same_owner b a ≡ false
less_apart a b less = sym (same_by_cmp b a) ∙ ap is_eq (owner_total.antisymm b a ∙ ap ordering_reverse less)

-- the one, the other, or both are one
pub by_order : {G : Type 0} (a b : Owner) → (o : Ordering) → owner_cmp a b ≡ o → (owner_cmp a b ≡ Less → G) → (a ≡ b → G) → (owner_cmp b a ≡ Less → G) → G
by_order a b Less is less same more = less is
by_order a b Equal is less same more = same (same_equal a b (sym (same_by_cmp a b) ∙ ap is_eq is))
by_order a b Greater is less same more = more (owner_total.antisymm b a ∙ ap ordering_reverse is)
