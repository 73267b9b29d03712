-- Facts of each element of a list, of each beside those before it, and of some element.
use Rattle.std.specs.Prelude.{List, [], ◌∷◌, ◌++◌, ◌⊎◌}

-- P of each element and of those before it, where `done` stands before the list
abbrev pub EachFrom : {A : Type 0} → (List A → A → Type 0) → List A → List A → Type 0
EachFrom P done [] = Unit {0}
EachFrom P done (x ∷ xs) = P done x × EachFrom P (done ++ x ∷ []) xs

-- P of each element and of those before it
abbrev pub Each : {A : Type 0} → (List A → A → Type 0) → List A → Type 0
Each P xs = EachFrom P [] xs

-- P of each element
abbrev pub AllOf : {A : Type 0} → (A → Type 0) → List A → Type 0
AllOf P [] = Unit {0}
AllOf P (x ∷ xs) = P x × AllOf P xs

-- P of some element
abbrev pub SomeOf : {A : Type 0} → (A → Type 0) → List A → Type 0
SomeOf P [] = ⊥
SomeOf P (x ∷ xs) = P x ⊎ SomeOf P xs
