-- The forms of the names of a database's files: a word, and behind it numbers, with dots between them.
use Rattle.std.specs.Prelude.{ℕ, ◌==◌, ◌&&◌, ◌||◌, nat_le, Bool, true, false, if◌then◌else◌, List, [], ◌∷◌, codes, None, Some}
use Rattle.std.specs.declared.option.Option.{Option}
use Rattle.std.specs.List.{slice_split}
use Rattle.std.specs.Str.{bytes_eq}
use Rattle.text_num.specs.Numbers.{number}
use Rattle.store_tidy.specs.declared.forms.Range.{Range}

-- the fields of a name: it is cut at each dot
abbrev pub cut_at_dots : List ℕ → List (List ℕ)
cut_at_dots name = slice_split (λ byte. byte == 46) name

-- a number in the range
abbrev pub is_in : Range → ℕ → Bool
is_in range n = nat_le range.low n && nat_le n range.high

-- a number is there, and in the range
abbrev pub is_number_in : Range → Option ℕ → Bool
is_number_in range None = false
is_number_in range (Some n) = is_in range n

-- a canonical decimal in the range
abbrev pub is_decimal_in : Range → List ℕ → Bool
is_decimal_in range text = is_number_in range (number 10 text)

-- canonical decimals, one in each of the ranges
abbrev pub are_decimals_in : List Range → List (List ℕ) → Bool
are_decimals_in [] [] = true
are_decimals_in [] (text ∷ texts) = false
are_decimals_in (range ∷ ranges) [] = false
are_decimals_in (range ∷ ranges) (text ∷ texts) = is_decimal_in range text && are_decimals_in ranges texts

-- the numbers of a name: 32 bits for an epoch, 4,096 images, four events, 65,536 generations from 1
abbrev pub epochs : Range
epochs = record { low = 0; high = 4294967295 }

abbrev pub images : Range
images = record { low = 0; high = 4095 }

abbrev pub events : Range
events = record { low = 0; high = 3 }

abbrev pub generations : Range
generations = record { low = 1; high = 65536 }

-- behind `p` stand an epoch, an image's number, an event's code and a generation, behind `u` these but for the image, and behind
-- `seal`, `head` and `r` a generation
abbrev pub is_form : List (List ℕ) → Bool
is_form [] = false
is_form (word ∷ numbers) =
    if bytes_eq word (codes "p") then are_decimals_in (epochs ∷ images ∷ events ∷ generations ∷ []) numbers
    else (if bytes_eq word (codes "u") then are_decimals_in (epochs ∷ events ∷ generations ∷ []) numbers
    else ((bytes_eq word (codes "seal") || bytes_eq word (codes "head") || bytes_eq word (codes "r")) && are_decimals_in (generations ∷ []) numbers))

-- a name of a database's file
abbrev pub is_file_name : List ℕ → Bool
is_file_name name = is_form (cut_at_dots name)
