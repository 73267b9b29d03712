-- From the words of one step to those of the step that it is a part of.
use Rattle.std.proofs.Common.{◌≡◌, ℕ, refl, subst, true, Some, Option}
use Rattle.std.specs.Prelude.{IfSome}
use Rattle.std.proofs.lemmas.Bool.{both_ways}
use Rattle.driver_model.specs.Sides.{Side, slot_of}
use Rattle.driver_model.specs.Handover.{FarSide, Given, given_of}
use Rattle.driver_model.specs.Driver.{Two}
use Rattle.driver_model.specs.Runs.{word_of}
use Rattle.driver_laws.specs.Turns.{AreFairWords}
use Rattle.lane_side.specs.Calls.{ReadsBuffer}
use Rattle.cpu_lane.specs.Told.{OverTwo, two_at}

-- words that no look read
abbrev pub no_words : Two
no_words = record { first = 0; second = 0 }

-- such words are fair
pub fair_none : (v : Side) → AreFairWords v no_words
fair_none v = ((λ z. absurd (both_ways true z refl)), (λ z. absurd (both_ways true z refl)))

-- what follows from a step over words holds over the same words
pub over_map : (f : FarSide) (v : Side) (P Q : Two → Type 0) → ((h : Two) → P h → Q h) → OverTwo f v P → OverTwo f v Q
over_map f v P Q g o = record { read = (o.read.0, g o.read.0 o.read.1, o.read.2); told = λ given e. g (two_at given v) (o.told given e) }

-- what holds over any words
pub over_any : (f : FarSide) (v : Side) (P : Two → Type 0) → ((h : Two) → P h) → OverTwo f v P
over_any f v P g = record { read = (no_words, g no_words, fair_none v); told = λ given e. g (two_at given v) }

-- the word that a look read is the one that the side tells
pub told_word : (v : Side) (f : FarSide) (b r : ℕ) (g : Given) → f.given ≡ Some g → ReadsBuffer v f b r → r ≡ word_of (slot_of v b) (given_of g b)
told_word v f b r g e told = subst (λ (o : Option Given). IfSome o (λ given. r ≡ word_of (slot_of v b) (given_of given b))) e told
