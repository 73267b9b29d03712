-- One count more in a profile, and in what was gathered.
use Rattle.std.proofs.Common.{arith, ◌≡◌, ℕ, ◌+◌, ◌%◌, ◌^◌, ◌<◌, ◌≤◌, ◌&&◌, Bool, true, false, eqb, cond, [], ◌∷◌, Option, None, Some, refl, sym, ap, ◌∙◌, subst}
use Rattle.std.specs.Prelude.{◌==◌, if◌then◌else◌, unwrap_or}
use Rattle.std.specs.Prelude.{OnOk, OnErr, Ok, Err, IfSome}
use Rattle.std.specs.Borrow.{Bor}
use Rattle.std.specs.Option.{option_copied}
use Rattle.std.specs.declared.result.Result.{Result}
use Rattle.std.specs.declared.cmp.Ordering.{Ordering}
use Rattle.std.specs.declared.cmp.Ordering.TheVariants.{Less, Equal, Greater}
use Rattle.std.specs.Ordering.{nat_cmp, MatchOrdering, match_ordering}
use Rattle.std.specs.BTreeMap.{insert_entry, is_at}
use Rattle.std.specs.Map.{lookup, set_value}
use Rattle.std.proofs.lemmas.Bool.{eqb-true}
use Rattle.std.proofs.lemmas.Bool.Decides.{nat_tests}
use Rattle.std.proofs.lemmas.Cmp.{ranked}
use Rattle.profile_merge.specs.declared.owners.Owner.{Owner}
use Rattle.profile_merge.specs.Sums.{Counts, Collected, same_owner, sum_at, AddsCount, PutsCount, HasSame, CountsRiseFrom, AreCounts, AreSums}
use Rattle.profile_merge.proofs.OwnerOrder.{owner_cmp, at_is_same, same_equal}

-- ---- the counts of one profile

same_twice : (b : Bool) (v w s : ℕ) → (if b then v else s) ≡ (if b then v else (if b then w else s))
same_twice true v w s = refl
same_twice false v w s = refl

one_of_two : (a b : Bool) (v w s : ℕ) → (a ≡ true → b ≡ true → ⊥) → (if a then w else (if b then v else s)) ≡ (if b then v else (if a then w else s))
one_of_two true true v w s apart = absurd (apart refl refl)
one_of_two true false v w s apart = refl
one_of_two false b v w s apart = refl

sum_step : (k v q : ℕ) (e : ℕ × ℕ) (es : Counts) (o : Ordering) → MatchOrdering o (k < e.0) (k ≡ e.0) (e.0 < k)
    → sum_at (insert_entry nat_cmp es k v) q ≡ (if k == q then v else sum_at es q)
    → sum_at (match_ordering o ((k, v) ∷ e ∷ es) ((e.0, v) ∷ es) (e ∷ insert_entry nat_cmp es k v)) q ≡ (if k == q then v else sum_at (e ∷ es) q)
sum_step k v q e es Less less more = refl
sum_step k v q e es Equal same more =
    same_twice (e.0 == q) v e.1 (sum_at es q) ∙ ap (λ (x : ℕ). if x == q then v else sum_at (e ∷ es) q) (sym same)
sum_step k v q e es Greater below more =
    ap (λ (s : ℕ). if e.0 == q then e.1 else s) more
    ∙ one_of_two (e.0 == q) (k == q) v e.1 (sum_at es q) (λ a b. let at : e.0 ≡ q = eqb-true e.0 q a in let is : k ≡ q = eqb-true k q b in omega arith)

pub sum_insert : (es : Counts) (k v q : ℕ) → sum_at (insert_entry nat_cmp es k v) q ≡ (if k == q then v else sum_at es q)
sum_insert [] k v q = refl
sum_insert (e ∷ es) k v q = sum_step k v q e es (nat_cmp k e.0) (ranked k e.0 (nat_cmp k e.0) refl) (sum_insert es k v q)

rise_step : (least k v : ℕ) (e : ℕ × ℕ) (es : Counts) (o : Ordering) → MatchOrdering o (k < e.0) (k ≡ e.0) (e.0 < k)
    → least ≤ k → k < 2 ^ 64 → k % 4 ≡ 0 → 1 ≤ v → CountsRiseFrom least (e ∷ es)
    → (e.0 < k → CountsRiseFrom (e.0 + 1) (insert_entry nat_cmp es k v))
    → CountsRiseFrom least (match_ordering o ((k, v) ∷ e ∷ es) ((e.0, v) ∷ es) (e ∷ insert_entry nat_cmp es k v))
rise_step least k v e es Less less above fits four some rise more = (above, fits, four, some, (omega (arith, less), rise.1, rise.2, rise.3, rise.4))
rise_step least k v e es Equal same above fits four some rise more = (rise.0, rise.1, rise.2, some, rise.4)
rise_step least k v e es Greater below above fits four some rise more = (rise.0, rise.1, rise.2, rise.3, more below)

rise_insert : (least : ℕ) (es : Counts) (k v : ℕ) → least ≤ k → k < 2 ^ 64 → k % 4 ≡ 0 → 1 ≤ v → CountsRiseFrom least es → CountsRiseFrom least (insert_entry nat_cmp es k v)
rise_insert least [] k v above fits four some rise = (above, fits, four, some, tt)
rise_insert least (e ∷ es) k v above fits four some rise = rise_step least k v e es (nat_cmp k e.0) (ranked k e.0 (nat_cmp k e.0) refl) above fits four some rise
    (λ below. rise_insert (e.0 + 1) es k v (omega (arith, below)) fits four some rise.4)

some_counts : (k v : ℕ) (e : ℕ × ℕ) (es : Counts) (o : Ordering) → CountsRiseFrom 0 (match_ordering o ((k, v) ∷ e ∷ es) ((e.0, v) ∷ es) (e ∷ insert_entry nat_cmp es k v))
    → AreCounts (match_ordering o ((k, v) ∷ e ∷ es) ((e.0, v) ∷ es) (e ∷ insert_entry nat_cmp es k v))
some_counts k v e es Less rise = rise
some_counts k v e es Equal rise = rise
some_counts k v e es Greater rise = rise

pub counts_insert : (es : Counts) (k v : ℕ) → k < 2 ^ 64 → k % 4 ≡ 0 → 1 ≤ v → AreCounts es → AreCounts (insert_entry nat_cmp es k v)
counts_insert [] k v fits four some are = absurd are
counts_insert (e ∷ es) k v fits four some are = some_counts k v e es (nat_cmp k e.0) (rise_insert 0 (e ∷ es) k v (omega arith) fits four some are)

-- what a map finds is the sum
found_sum : (es : Counts) (q : ℕ) → unwrap_or (lookup (is_at (nat_cmp q)) es) 0 ≡ sum_at es q
found_sum [] q = refl
found_sum (e ∷ es) q = by (e.0 == q) (is_at (nat_cmp q) e.0) (alike q e.0) (found_sum es q)
  where
    alike : (a b : ℕ) → is_at (nat_cmp a) b ≡ eqb b a
    alike a b = grind (arith, nat_tests)

    by : (b c : Bool) → c ≡ b → unwrap_or (lookup (is_at (nat_cmp q)) es) 0 ≡ sum_at es q
        → unwrap_or (cond c (Some e.1) (lookup (is_at (nat_cmp q)) es)) 0 ≡ (if b then e.1 else sum_at es q)
    by true true same more = refl
    by false false same more = more
    by true false same more = cc
    by false true same more = cc

more_here : (b : Bool) (before count s : ℕ) → (b ≡ true → before ≡ s) → (if b then before + count else s) ≡ s + (if b then count else 0)
more_here true before count s same = ap (λ (x : ℕ). x + count) (same refl)
more_here false before count s same = omega arith

pub adds_count : (es : Counts) (k count before sum : ℕ) → before ≡ unwrap_or (lookup (is_at (nat_cmp k)) es) 0 → sum ≡ before + count → AddsCount es (insert_entry nat_cmp es k sum) k count
adds_count es k count before sum found is = λ q.
    sum_insert es k sum q
    ∙ ap (λ (x : ℕ). if k == q then x else sum_at es q) is
    ∙ more_here (k == q) before count (sum_at es q) (λ here. found ∙ found_sum es k ∙ ap (sum_at es) (eqb-true k q here))

-- ---- the counts of all

sum_of : (o : Option Counts) → ℕ → ℕ
sum_of o offset = sum_at (unwrap_or o []) offset

puts_by : (b : Bool) (held w : Counts) (o : Option Counts) (at count offset : ℕ) → (b ≡ true → unwrap_or o [] ≡ held) → AddsCount held w at count
    → sum_at (unwrap_or (cond b (Some w) o) []) offset ≡ sum_at (unwrap_or o []) offset + (if b && at == offset then count else 0)
puts_by true held w o at count offset same adds = adds offset ∙ ap (λ (h : Counts). sum_at h offset + (if at == offset then count else 0)) (sym (same refl))
puts_by false held w o at count offset same adds = omega arith

-- what a map finds is what was gathered
found_counts : (g : Collected) (q : Owner) → lookup (is_at (owner_cmp q)) g ≡ lookup (same_owner q) g
found_counts g q = ap (λ (test : Owner → Bool). lookup test g) (at_is_same q)

pub puts_count : (before after : Collected) (owner : Owner) (held w : Counts) (at count : ℕ)
    → unwrap_or (lookup (is_at (owner_cmp owner)) before) [] ≡ held → AddsCount held w at count
    → ((q : Owner) → lookup (is_at (owner_cmp q)) after ≡ cond (is_at (owner_cmp owner) q) (Some w) (lookup (is_at (owner_cmp q)) before))
    → PutsCount before after owner at count
puts_count before after owner held w at count is adds updates = λ q offset.
    ap (λ (o : Option Counts). sum_at (unwrap_or o []) offset)
    (sym (found_counts after q) ∙ updates q ∙ ap (λ (o : Option Counts). cond (is_at (owner_cmp owner) q) (Some w) o) (found_counts before q)
    ∙ ap (λ (b : Bool). cond b (Some w) (lookup (same_owner q) before)) (ap (λ (test : Owner → Bool). test q) (at_is_same owner)))
    ∙ puts_by (same_owner owner q) held w (lookup (same_owner q) before) at count offset
    (λ same. ap (λ (o : Owner). unwrap_or (lookup (same_owner o) before) []) (sym (same_equal owner q same)) ∙ ap (λ (o : Option Counts). unwrap_or o []) (sym (found_counts before owner)) ∙ is)
    adds

same_by : (b : Bool) (held : Counts) (o : Option Counts) (offset : ℕ) → (b ≡ true → unwrap_or o [] ≡ held) → sum_at (unwrap_or (cond b (Some held) o) []) offset ≡ sum_at (unwrap_or o []) offset
same_by true held o offset same = ap (λ (h : Counts). sum_at h offset) (sym (same refl))
same_by false held o offset same = refl

pub has_same : (before after : Collected) (owner : Owner) (held : Counts)
    → unwrap_or (lookup (is_at (owner_cmp owner)) before) [] ≡ held
    → ((q : Owner) → lookup (is_at (owner_cmp q)) after ≡ cond (is_at (owner_cmp owner) q) (Some held) (lookup (is_at (owner_cmp q)) before))
    → HasSame before after
has_same before after owner held is updates = λ q offset.
    ap (λ (o : Option Counts). sum_at (unwrap_or o []) offset)
    (sym (found_counts after q) ∙ updates q ∙ ap (λ (o : Option Counts). cond (is_at (owner_cmp owner) q) (Some held) o) (found_counts before q)
    ∙ ap (λ (b : Bool). cond b (Some held) (lookup (same_owner q) before)) (ap (λ (test : Owner → Bool). test q) (at_is_same owner)))
    ∙ same_by (same_owner owner q) held (lookup (same_owner q) before) offset
    (λ same. ap (λ (o : Owner). unwrap_or (lookup (same_owner o) before) []) (sym (same_equal owner q same)) ∙ ap (λ (o : Option Counts). unwrap_or o []) (sym (found_counts before owner)) ∙ is)

-- ---- all stay counts

set_by : (b : Bool) (e : Owner × Counts) (es set : Collected) (w : Counts) → AreCounts w → AreSums (e ∷ es) → AreSums set → AreSums (cond b ((e.0, w) ∷ es) (e ∷ set))
set_by true e es set w are all more = (are, all.1)
set_by false e es set w are all more = (all.0, more)

pub sums_set : (test : Owner → Bool) (es : Collected) (w : Counts) → AreCounts w → AreSums es → AreSums (set_value test es w)
sums_set test [] w are all = tt
sums_set test (e ∷ es) w are all = set_by (test e.0) e es (set_value test es w) w are all (sums_set test es w are all.1)

insert_by : (o : Ordering) (k : Owner) (e : Owner × Counts) (es more : Collected) (w : Counts) → AreCounts w → AreSums (e ∷ es) → AreSums more
    → AreSums (match_ordering o ((k, w) ∷ e ∷ es) ((e.0, w) ∷ es) (e ∷ more))
insert_by Less k e es more w are all later = (are, all)
insert_by Equal k e es more w are all later = (are, all.1)
insert_by Greater k e es more w are all later = (all.0, later)

pub sums_insert : (es : Collected) (k : Owner) (w : Counts) → AreCounts w → AreSums es → AreSums (insert_entry owner_cmp es k w)
sums_insert [] k w are all = (are, tt)
sums_insert (e ∷ es) k w are all = insert_by (owner_cmp k e.0) k e es (insert_entry owner_cmp es k w) w are all (sums_insert es k w are all.1)

found_by : (b : Bool) (v : Counts) (rest : Option Counts) (w : Counts) → cond b (Some v) rest ≡ Some w → AreCounts v → (rest ≡ Some w → AreCounts w) → AreCounts w
found_by true v rest w is are later = let same : v ≡ w = cc in subst AreCounts same are
found_by false v rest w is are later = later is

pub found_are : (test : Owner → Bool) (es : Collected) (w : Counts) → lookup test es ≡ Some w → AreSums es → AreCounts w
found_are test [] w found all = absurd cc
found_are test (e ∷ es) w found all = found_by (test e.0) e.1 (lookup test es) w found all.0 (λ later. found_are test es w later all.1)

-- ---- of answers

pub on_ok : {T E P Q : Type 0} (r : Result T E) → (P → Q) → OnOk r P → OnOk r Q
on_ok (Ok value) f p = f p
on_ok (Err error) f p = tt

pub on_err : {T E P Q : Type 0} (r : Result T E) → (P → Q) → OnErr r P → OnErr r Q
on_err (Ok value) f p = tt
on_err (Err error) f p = f p

pub always_err : {T E Q : Type 0} (r : Result T E) → Q → OnErr r Q
always_err (Ok value) q = tt
always_err (Err error) q = q

pub some_are : (test : Owner → Bool) (es : Collected) (r : Option (Bor Counts)) → option_copied r ≡ lookup test es → AreSums es → IfSome r (λ counts. AreCounts counts.now)
some_are test es None found sums = tt
some_are test es (Some counts) found sums = found_are test es counts.now (sym found) sums

pub found_same : (es : Collected) (owner : Owner) → lookup (is_at (owner_cmp owner)) es ≡ lookup (same_owner owner) es
found_same es owner = ap (λ (test : Owner → Bool). lookup test es) (at_is_same owner)
