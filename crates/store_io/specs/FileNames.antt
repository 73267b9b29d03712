-- The names of a database's files.
use Rattle.std.specs.Prelude.{ℕ, List, ◌++◌, codes}
use Rattle.std.specs.Fmt.{decimal}
use Rattle.store_io.specs.declared.file_refs.FileRef.{FileRef}
use Rattle.store_io.specs.declared.file_refs.FileRef.TheVariants.{Head, Known, Unknown, Segment}

-- the name that a file has, with dots between its numbers
abbrev pub file_name : FileRef → List ℕ
file_name (Head g) = codes "head." ++ decimal g
file_name (Known epoch image event g) = codes "p." ++ (decimal epoch ++ (codes "." ++ (decimal image ++ (codes "." ++ (decimal event ++ (codes "." ++ decimal g))))))
file_name (Unknown epoch event g) = codes "u." ++ (decimal epoch ++ (codes "." ++ (decimal event ++ (codes "." ++ decimal g))))
file_name (Segment g) = codes "r." ++ decimal g
