-- What writing a trace leaves.
use Rattle.std.specs.Prelude.{◌≡◌, ℕ, false, List, [], ◌∷◌, ◌++◌, codes}
use Rattle.std.specs.declared.option.Option.{Option}
use Rattle.std.specs.declared.result.Result.{Result}
use Rattle.std.specs.declared.result.Result.TheVariants.{Ok, Err}
use Rattle.std.specs.Fmt.{digits, decimal}
use Rattle.std.specs.Io.KnownBytes.{Appends}
use Rattle.std.specs.List.{join_with_byte}
use Rattle.outside_io.specs.Causes.{Rose}
use Rattle.outside_io.specs.Prefix.{AppendsPrefix}
use Rattle.sample_key.specs.declared.keys.Key.{Key}
use Rattle.sample_key.specs.Events.{name_of}
use Rattle.trace_model.specs.Said.{Said, line_text}
use Rattle.trace_text.specs.declared.refusals.PutError.{PutError}
use Rattle.trace_text.specs.declared.refusals.PutError.TheVariants.{WriteFault, Memory}

-- the whole text was written; after a fault of the sink, which its count shows, a front of it; without memory nothing
abbrev pub PutsText : {T : Type 0} → List ℕ → Option (List ℕ) → Option (List ℕ) → ℕ → ℕ → Result T PutError → Type 0
PutsText text old new before now (Ok done) = Appends old new text × (now ≡ before)
PutsText text old new before now (Err WriteFault) = AppendsPrefix old new text × Rose before now
PutsText text old new before now (Err Memory) = (new ≡ old) × (now ≡ before)

-- a line with its line feed
abbrev pub ended : Said ℕ → List ℕ
ended said = line_text said ++ 10 ∷ []

-- the sizes behind the number of processors, and the end of the line
abbrev pub sizes_text : ℕ → ℕ → List ℕ
sizes_text buckets buffer = codes " buckets " ++ (decimal buckets ++ (codes " buffer " ++ (decimal buffer ++ 10 ∷ [])))

-- the line of a header, in the long form
abbrev pub header_text : ℕ → ℕ → ℕ → List ℕ
header_text cpus buckets buffer = codes "dcpi-trace 1 cpus " ++ (decimal cpus ++ sizes_text buckets buffer)

-- the line of a mapping of a process, under its word
abbrev pub mapping_text : List ℕ → ℕ → ℕ → ℕ → List ℕ → List ℕ
mapping_text word pid base size image = join_with_byte 32 (word ∷ decimal pid ∷ digits 16 false base ∷ digits 16 false size ∷ image ∷ []) ++ 10 ∷ []

-- the base and the length of a mapping, behind other fields
abbrev pub range_text : ℕ → ℕ → List ℕ
range_text base size = 32 ∷ (digits 16 false base ++ 32 ∷ digits 16 false size)

-- the end of the line of a sample
abbrev pub key_end : Key → List ℕ
key_end key = 32 ∷ (digits 16 false key.pc ++ 32 ∷ (name_of key.event ++ 10 ∷ []))
