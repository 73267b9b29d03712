-- What a store answers about its files, where it tells them.
use Rattle.std.specs.Prelude.{◌≡◌, ℕ, Bool, true, List, map, ⊤, None, Some, is_some}
use Rattle.std.specs.declared.option.Option.{Option}
use Rattle.std.specs.Option.{option_map}
use Rattle.std.specs.List.{list_any, list_all}
use Rattle.std.specs.List.Sorted.{IsStrictlySortedBy}
use Rattle.std.specs.Ordering.{nat_cmp}
use Rattle.std.specs.Cmp.Lexicographic.{slice_cmp}
use Rattle.std.specs.Str.{bytes_eq}
use Rattle.std.specs.Global.{Vec}
use Rattle.std.specs.BTreeSet.{BTreeSet}
use Rattle.text_num.specs.Names.{is_name}
use Rattle.store_io.specs.Files.{Files, contents}

-- whether a name is one of the names
abbrev pub is_listed : List ℕ → List (List ℕ) → Bool
is_listed name names = list_any (λ n. bytes_eq n name) names

-- the names are in byte order, each once
abbrev pub IsInByteOrder : List (List ℕ) → Type 0
IsInByteOrder names = IsStrictlySortedBy (slice_cmp nat_cmp) names

-- the names are those that are there
abbrev pub Lists : Option Files → List (List ℕ) → Type 0
Lists None names = ⊤
Lists (Some files) names = (n : List ℕ) → is_listed n names ≡ is_some (files n)

-- what was found is what is there under the name
abbrev pub Finds : Option Files → List ℕ → Option (Vec ℕ) → Type 0
Finds None name found = ⊤
Finds (Some files) name found = option_map contents found ≡ files name

-- the texts of a set, in byte order
abbrev pub text_list : BTreeSet (Vec ℕ) → List (List ℕ)
text_list texts = map contents texts.keys

-- all texts are names
abbrev pub AreNames : List (List ℕ) → Type 0
AreNames texts = list_all is_name texts ≡ true
