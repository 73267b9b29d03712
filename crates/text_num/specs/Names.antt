-- Names of images, procedures and files.
use Rattle.std.specs.Prelude.{◌≡◌, ℕ, Bool, true, List, length, nat_le, ◌&&◌}
use Rattle.std.specs.List.{list_all}

-- a visible ASCII byte: neither a blank nor a control byte
abbrev pub is_visible : ℕ → Bool
is_visible byte = nat_le 33 byte && nat_le byte 126

-- 1 to 255 visible bytes
abbrev pub is_name : List ℕ → Bool
is_name bytes = nat_le 1 (length bytes) && nat_le (length bytes) 255 && list_all is_visible bytes

-- the name of these bytes
abbrev pub IsNameOf : List ℕ → List ℕ → Type 0
IsNameOf bytes name = (is_name bytes ≡ true) × (name ≡ bytes)
