-- A command that words name makes no more samples than a trace can have.
use Rattle.std.proofs.Common.{◌≡◌, ℕ, ◌≤◌, Bool, true, false, if◌then◌else◌, List, [], ◌∷◌, codes, refl, subst, sym}
use Rattle.std.proofs.lemmas.Bool.{leb-true}
use Rattle.std.specs.Prelude.{IfSome, nat_le, option_and_then}
use Rattle.std.specs.declared.option.Option.{Option}
use Rattle.std.specs.declared.option.Option.TheVariants.{Some, None}
use Rattle.std.specs.Str.{bytes_eq}
use Rattle.text_num.specs.Numbers.{number}
use Rattle.sample_key.specs.declared.limits.TheConstants.{MOST_SAMPLES}
use Rattle.sample_key.specs.Events.{event_named}
use Rattle.dcpi_top.specs.declared.commands.Command.{Command}
use Rattle.dcpi_top.specs.declared.commands.Command.TheVariants.{Make}
use Rattle.dcpi_top.specs.Commands.{MakesFew, command_of, csv_named, epochs_named, listing_named, making_of, samples_in}

-- what holds of both holds of the one that is chosen
either : {A : Type 0} (P : A → Type 0) (b : Bool) (x y : Option A) → IfSome x P → IfSome y P → IfSome (if b then x else y) P
either P true x y first second = first
either P false x y first second = second

-- what holds of all that a step gives holds behind it
behind : {A B : Type 0} (P : B → Type 0) (o : Option A) (f : A → Option B) → ((a : A) → IfSome (f a) P) → IfSome (option_and_then f o) P
behind P None f each = tt
behind P (Some a) f each = each a

-- the same where something holds of what the step is given
behind_known : {A B : Type 0} (K : A → Type 0) (P : B → Type 0) (o : Option A) (f : A → Option B) → IfSome o K → ((a : A) → K a → IfSome (f a) P)
    → IfSome (option_and_then f o) P
behind_known K P None f known each = tt
behind_known K P (Some a) f known each = each a known

-- a number of samples that a trace can have is not too great
in_range : (n : ℕ) (b : Bool) → nat_le n MOST_SAMPLES ≡ b → IfSome (if b then Some n else None) (λ m. m ≤ MOST_SAMPLES)
in_range n true is = leb-true n MOST_SAMPLES is
in_range n false is = tt

few_samples : (n : ℕ) → IfSome (samples_in n) (λ m. m ≤ MOST_SAMPLES)
few_samples n = in_range n (nat_le n MOST_SAMPLES) refl

making : (seed samples : List ℕ) (trace : Bool) → IfSome (making_of seed samples trace) MakesFew
making seed samples trace = behind MakesFew (number 10 seed) (λ from. option_and_then (λ most. Some (Make from most trace)) (option_and_then samples_in (number 10 samples)))
    (λ from. behind_known (λ m. m ≤ MOST_SAMPLES) MakesFew (option_and_then samples_in (number 10 samples)) (λ most. Some (Make from most trace))
    (behind (λ m. m ≤ MOST_SAMPLES) (number 10 samples) samples_in few_samples) (λ most few. few))

listing : (kind epoch event form : List ℕ) → IfSome (listing_named kind epoch event form) MakesFew
listing kind epoch event form = behind MakesFew (epochs_named epoch) _ (λ epochs. behind MakesFew (event_named event) _ (λ counted. behind MakesFew (csv_named form) _
    (λ csv. either MakesFew (bytes_eq kind (codes "image")) _ _ tt (either MakesFew (bytes_eq kind (codes "procedure")) _ _ tt tt))))

pub few : (words : List (List ℕ)) → IfSome (command_of words) MakesFew
few [] = tt
few (word ∷ []) = either MakesFew (bytes_eq word (codes "plain")) _ _ tt tt
few (word ∷ db ∷ []) = either MakesFew (bytes_eq word (codes "replay")) _ _ tt (either MakesFew (bytes_eq word (codes "cat")) _ _ tt
    (either MakesFew (bytes_eq word (codes "runs")) _ _ tt (either MakesFew (bytes_eq word (codes "tidy")) _ _ tt tt)))
few (word ∷ seed ∷ samples ∷ []) = either MakesFew (bytes_eq word (codes "make")) _ _ (making seed samples false) tt
few (word ∷ seed ∷ samples ∷ form ∷ []) = either MakesFew (bytes_eq form (codes "--trace")) _ _
    (either MakesFew (bytes_eq word (codes "make")) _ _ (making seed samples true) tt) tt
few (word ∷ db ∷ kind ∷ epoch ∷ event ∷ []) = tt
few (word ∷ db ∷ kind ∷ epoch ∷ event ∷ form ∷ []) = either MakesFew (bytes_eq word (codes "prof")) _ _ (listing kind epoch event form) tt
few (word ∷ db ∷ kind ∷ epoch ∷ event ∷ form ∷ next ∷ more) = tt

-- so with the command that was found
pub makes_few : (words : List (List ℕ)) (command : Command) → Some command ≡ command_of words → MakesFew command
makes_few words command is = subst (λ o. IfSome o MakesFew) (sym is) (few words)
