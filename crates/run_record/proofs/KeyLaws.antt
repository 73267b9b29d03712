-- Keys, events and flags as numbers.
use Rattle.std.proofs.Common.{◌≡◌, ℕ, zero, suc, ◌+◌, ◌*◌, ◌/◌, ◌%◌, ◌<◌, ◌≤◌, Bool, true, false, refl, ap, subst, ◌∙◌, arith}
use Rattle.std.specs.Prelude.{◌==◌, if◌then◌else◌}
use Rattle.std.proofs.Math.Nat.{ℕ_set}
use Rattle.sample_key.specs.declared.events.Event.{Event}
use Rattle.sample_key.specs.declared.events.Event.TheVariants.{Cycles, Imiss, Dmiss, Branchmp}
use Rattle.sample_key.specs.declared.keys.Key.{Key}
use Rattle.sample_key.specs.Events.{code_of}
use Rattle.database_model.specs.SegmentForm.{event_at, key_at}

-- the number of a flag
abbrev pub bit_of : Bool → ℕ
bit_of flag = if flag then 1 else 0

abbrev made : ℕ → (pc : ℕ) → Event → pc % 4 ≡ 0 → Key
made pid pc event aligned = record { pid = pid; pc = pc; event = event; aligned = aligned }

-- keys with the same fields are one
pub key_is : (k : Key) (pid position : ℕ) (event : Event) → k.pid ≡ pid → k.pc ≡ 4 * position → k.event ≡ event → k ≡ key_at pid position event
key_is k pid position event p q r =
    let here : (a : k.pc % 4 ≡ 0) → k ≡ made k.pid k.pc k.event a = λ a. ap (λ (x : k.pc % 4 ≡ 0). made k.pid k.pc k.event x) (ℕ_set (k.pc % 4) 0 k.aligned a) in
    let there : (a : 4 * position % 4 ≡ 0) → k ≡ made k.pid (4 * position) k.event a = subst (λ (pc : ℕ). (a : pc % 4 ≡ 0) → k ≡ made k.pid pc k.event a) q here in
    there (key_at pid position event).aligned
    ∙ ap (λ (n : ℕ). made n (4 * position) k.event (key_at pid position event).aligned) p
    ∙ ap (λ (e : Event). made pid (4 * position) e (key_at pid position event).aligned) r

pub event_at-code_of : (e : Event) → event_at (code_of e) ≡ e
event_at-code_of Cycles = refl
event_at-code_of Imiss = refl
event_at-code_of Dmiss = refl
event_at-code_of Branchmp = refl

pub code_of_small : (e : Event) → code_of e ≤ 3
code_of_small Cycles = omega arith
code_of_small Imiss = omega arith
code_of_small Dmiss = omega arith
code_of_small Branchmp = omega arith

pub code_of-event_at : (code : ℕ) → code ≤ 3 → code_of (event_at code) ≡ code
code_of-event_at zero le = refl
code_of-event_at (suc zero) le = refl
code_of-event_at (suc (suc zero)) le = refl
code_of-event_at (suc (suc (suc zero))) le = refl
code_of-event_at (suc (suc (suc (suc code)))) le = absurd (omega arith)

-- the two parts of a kind: twice the code, and the flag
pub kind_code : (code : ℕ) (flag : Bool) → (2 * code + bit_of flag) / 2 ≡ code
kind_code code true = omega arith
kind_code code false = omega arith

pub kind_flag : (code : ℕ) (flag : Bool) → ((2 * code + bit_of flag) % 2 == 1) ≡ flag
kind_flag code true = let odd : (2 * code + 1) % 2 ≡ 1 = omega arith in rw odd refl
kind_flag code false = let even : (2 * code + 0) % 2 ≡ 0 = omega arith in rw even refl

pub kind_small : (e : Event) (flag : Bool) → 2 * code_of e + bit_of flag ≤ 7
kind_small e true = omega (arith, code_of_small e)
kind_small e false = omega (arith, code_of_small e)

bit_back : (rest : ℕ) → rest < 2 → bit_of (rest == 1) ≡ rest
bit_back zero lt = refl
bit_back (suc zero) lt = refl
bit_back (suc (suc rest)) lt = absurd (omega arith)

pub kind_back : (kind : ℕ) → kind ≤ 7 → 2 * code_of (event_at (kind / 2)) + bit_of (kind % 2 == 1) ≡ kind
kind_back kind le =
    let code = code_of-event_at (kind / 2) (omega arith) in
    let bit = bit_back (kind % 2) (omega arith) in
    omega (arith, code, bit)

pub bit_of-eqb : (flag : Bool) → (bit_of flag == 1) ≡ flag
bit_of-eqb true = refl
bit_of-eqb false = refl

pub bit_of_small : (flag : Bool) → bit_of flag ≤ 1
bit_of_small true = omega arith
bit_of_small false = omega arith

pub bit_of_last : (last : ℕ) → last ≤ 1 → bit_of (last == 1) ≡ last
bit_of_last last le = bit_back last (omega arith)
