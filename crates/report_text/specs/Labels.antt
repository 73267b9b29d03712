-- The labels of a listing, and the order in which its rows stand.
use Rattle.std.specs.Prelude.{ℕ, Bool, true, false, List, []}
use Rattle.std.specs.declared.cmp.Ordering.{Ordering}
use Rattle.std.specs.Ordering.{nat_cmp, ordering_then, eq_by_cmp}
use Rattle.std.specs.Cmp.Lexicographic.{slice_cmp}
use Rattle.report_text.specs.declared.labels.Label.{Label}
use Rattle.report_text.specs.declared.labels.Label.TheVariants.{Image, Procedure, NoSymbol, Unknown}
use Rattle.report_text.specs.declared.rows.Row.{Row}

-- the image of a label; the unknown samples have none
abbrev pub image_of : Label → List ℕ
image_of (Image image) = image
image_of (Procedure image name) = image
image_of (NoSymbol image) = image
image_of Unknown = []

-- the procedure of a label; no bytes where it has none, which stand before every name
abbrev pub procedure_of : Label → List ℕ
procedure_of (Image image) = []
procedure_of (Procedure image name) = name
procedure_of (NoSymbol image) = []
procedure_of Unknown = []

-- which kind of label it is: the unknown samples stand last, and kinds that never stand in one listing are told apart
abbrev pub kind_of : Label → ℕ
kind_of (Image image) = 0
kind_of (Procedure image name) = 2
kind_of (NoSymbol image) = 1
kind_of Unknown = 3

-- 1 for the unknown samples
abbrev pub last_of : Label → ℕ
last_of (Image image) = 0
last_of (Procedure image name) = 0
last_of (NoSymbol image) = 0
last_of Unknown = 1

-- the order of labels: by image in bytes, within an image by procedure in bytes, none of them first; the unknown samples last
abbrev pub label_cmp : Label → Label → Ordering
label_cmp a b =
    ordering_then (nat_cmp (last_of a) (last_of b))
    (ordering_then (slice_cmp nat_cmp (image_of a) (image_of b))
    (ordering_then (slice_cmp nat_cmp (procedure_of a) (procedure_of b)) (nat_cmp (kind_of a) (kind_of b))))

-- the same label
abbrev pub same_label : Label → Label → Bool
same_label a b = eq_by_cmp label_cmp a b

-- the order of rows: the largest count first, ties by label
abbrev pub row_cmp : Row → Row → Ordering
row_cmp a b = ordering_then (nat_cmp b.count a.count) (label_cmp a.label b.label)

-- the labels of a listing by procedure, or of one by image
abbrev pub is_listed : Bool → Label → Bool
is_listed true (Image image) = false
is_listed true (Procedure image name) = true
is_listed true (NoSymbol image) = true
is_listed true Unknown = true
is_listed false (Image image) = true
is_listed false (Procedure image name) = false
is_listed false (NoSymbol image) = false
is_listed false Unknown = true
