-- The forms of commands by the number of words.
use Rattle.std.proofs.Common.{◌≡◌, ℕ, ◌<◌, ◌≤◌, List, [], ◌∷◌, length, map, get_or, refl, ap, arith}
use Rattle.std.specs.declared.option.Option.TheVariants.{None}
use Rattle.dcpi_top.specs.Commands.{command_of, command_on, command_listing, command_making, command_tracing}

-- five words are no command
pub none_between : {S : Type 0} (f : S → List ℕ) (items : List S) → 5 ≤ length items → length items < 6
    → None ≡ command_of (map f items)
none_between f [] low high = absurd (omega arith)
none_between f (a ∷ []) low high = absurd (omega arith)
none_between f (a ∷ b ∷ []) low high = absurd (omega arith)
none_between f (a ∷ b ∷ c ∷ []) low high = absurd (omega arith)
none_between f (a ∷ b ∷ c ∷ d ∷ []) low high = absurd (omega arith)
none_between f (a ∷ b ∷ c ∷ d ∷ e ∷ []) low high = refl
none_between f (a ∷ b ∷ c ∷ d ∷ e ∷ g ∷ more) low high = absurd (omega arith)

-- nor are more than six
pub none_above : {S : Type 0} (f : S → List ℕ) (items : List S) → 7 ≤ length items → None ≡ command_of (map f items)
none_above f [] low = absurd (omega arith)
none_above f (a ∷ []) low = absurd (omega arith)
none_above f (a ∷ b ∷ []) low = absurd (omega arith)
none_above f (a ∷ b ∷ c ∷ []) low = absurd (omega arith)
none_above f (a ∷ b ∷ c ∷ d ∷ []) low = absurd (omega arith)
none_above f (a ∷ b ∷ c ∷ d ∷ e ∷ []) low = absurd (omega arith)
none_above f (a ∷ b ∷ c ∷ d ∷ e ∷ g ∷ []) low = absurd (omega arith)
none_above f (a ∷ b ∷ c ∷ d ∷ e ∷ g ∷ h ∷ more) low = refl

-- two words are a command on a database
pub two : {S : Type 0} (f : S → List ℕ) (items : List S) (word : S) → 2 ≤ length items → length items < 3
    → word ≡ get_or items 0 word → command_on (f word) ≡ command_of (map f items)
two f [] word low high is = absurd (omega arith)
two f (a ∷ []) word low high is = absurd (omega arith)
two f (a ∷ b ∷ []) word low high is = ap (λ w. command_on (f w)) is
two f (a ∷ b ∷ c ∷ more) word low high is = absurd (omega arith)

-- three words make a trace
pub three : {S : Type 0} (f : S → List ℕ) (items : List S) (word seed samples : S) → 3 ≤ length items → length items < 4
    → word ≡ get_or items 0 word → seed ≡ get_or items 1 seed → samples ≡ get_or items 2 samples
    → command_making (f word) (f seed) (f samples) ≡ command_of (map f items)
three f [] word seed samples low high p q r = absurd (omega arith)
three f (a ∷ []) word seed samples low high p q r = absurd (omega arith)
three f (a ∷ b ∷ []) word seed samples low high p q r = absurd (omega arith)
three f (a ∷ b ∷ c ∷ []) word seed samples low high p q r = λ i. command_making (f (p i)) (f (q i)) (f (r i))
three f (a ∷ b ∷ c ∷ d ∷ more) word seed samples low high p q r = absurd (omega arith)

-- four words make one that is printed
pub four : {S : Type 0} (f : S → List ℕ) (items : List S) (word seed samples form : S) → 4 ≤ length items → length items < 5
    → word ≡ get_or items 0 word → seed ≡ get_or items 1 seed → samples ≡ get_or items 2 samples → form ≡ get_or items 3 form
    → command_tracing (f word) (f seed) (f samples) (f form) ≡ command_of (map f items)
four f [] word seed samples form low high p q r s = absurd (omega arith)
four f (a ∷ []) word seed samples form low high p q r s = absurd (omega arith)
four f (a ∷ b ∷ []) word seed samples form low high p q r s = absurd (omega arith)
four f (a ∷ b ∷ c ∷ []) word seed samples form low high p q r s = absurd (omega arith)
four f (a ∷ b ∷ c ∷ d ∷ []) word seed samples form low high p q r s = λ i. command_tracing (f (p i)) (f (q i)) (f (r i)) (f (s i))
four f (a ∷ b ∷ c ∷ d ∷ e ∷ more) word seed samples form low high p q r s = absurd (omega arith)

-- five words of six
pub record SixWords {S : Type 0} (items : List S) (word kind epoch event form : S) : Type 0 where
  pub low : 6 ≤ length items
  pub high : length items < 7
  pub first : word ≡ get_or items 0 word
  pub third : kind ≡ get_or items 2 kind
  pub fourth : epoch ≡ get_or items 3 epoch
  pub fifth : event ≡ get_or items 4 event
  pub sixth : form ≡ get_or items 5 form

listed : {S : Type 0} (f : S → List ℕ) (w k e v m a c d g h : S) → w ≡ a → k ≡ c → e ≡ d → v ≡ g → m ≡ h
    → command_listing (f w) (f k) (f e) (f v) (f m) ≡ command_listing (f a) (f c) (f d) (f g) (f h)
listed f w k e v m a c d g h p q r s t = λ i. command_listing (f (p i)) (f (q i)) (f (r i)) (f (s i)) (f (t i))

-- six words are a listing
pub six : {S : Type 0} (f : S → List ℕ) (items : List S) (word kind epoch event form : S)
    → SixWords items word kind epoch event form
    → command_listing (f word) (f kind) (f epoch) (f event) (f form) ≡ command_of (map f items)
six f [] word kind epoch event form are = absurd (omega (arith, are.low))
six f (a ∷ []) word kind epoch event form are = absurd (omega (arith, are.low))
six f (a ∷ b ∷ []) word kind epoch event form are = absurd (omega (arith, are.low))
six f (a ∷ b ∷ c ∷ []) word kind epoch event form are = absurd (omega (arith, are.low))
six f (a ∷ b ∷ c ∷ d ∷ []) word kind epoch event form are = absurd (omega (arith, are.low))
six f (a ∷ b ∷ c ∷ d ∷ g ∷ []) word kind epoch event form are = absurd (omega (arith, are.low))
six f (a ∷ b ∷ c ∷ d ∷ g ∷ h ∷ []) word kind epoch event form are =
    listed f word kind epoch event form a c d g h are.first are.third are.fourth are.fifth are.sixth
six f (a ∷ b ∷ c ∷ d ∷ g ∷ h ∷ i ∷ more) word kind epoch event form are = absurd (omega (arith, are.high))
