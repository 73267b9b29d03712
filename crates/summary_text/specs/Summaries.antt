-- The text of a run: lines of words and numbers.
use Rattle.std.specs.Prelude.{ℕ, ◌+◌, List, [], ◌∷◌, ◌++◌, codes, sum_by}
use Rattle.std.specs.List.{flat_map}
use Rattle.std.specs.Fmt.{decimal}
use Rattle.sample_key.specs.Events.{name_of}
use Rattle.driver_model.specs.declared.plans.Stats.{Stats}
use Rattle.database_model.specs.declared.tallies.TallyRow.{TallyRow}
use Rattle.database_model.specs.Runs.{Recorded}
use Rattle.database_model.specs.Tally.{tally_of}

-- a word and a number, each behind a blank
abbrev pub field : List ℕ → ℕ → List ℕ
field word n = 32 ∷ (word ++ 32 ∷ decimal n)

-- how many samples were taken, and what became of them, to the end of the line
abbrev pub fates : ℕ → ℕ → ℕ → ℕ → List ℕ
fates taken known unknown lost =
    field (codes "taken") taken ++ (field (codes "known") known
    ++ (field (codes "unknown") unknown ++ (field (codes "lost") lost ++ 10 ∷ [])))

-- how many samples of its processor and event a row counts
abbrev pub taken_in : TallyRow → ℕ
taken_in row = row.attributed + row.unknown + row.lost

-- the line of a processor and an event
abbrev pub tally_line : TallyRow → List ℕ
tally_line row =
    codes "c " ++ (decimal row.cpu ++ 32 ∷ (name_of row.event
    ++ fates (taken_in row) row.attributed row.unknown row.lost))

-- the lines of a tally
abbrev pub tally_lines : List TallyRow → List ℕ
tally_lines rows = flat_map tally_line rows

-- the line of a driver: in which way it counted how many samples
abbrev pub stats_line : ℕ → Stats → List ℕ
stats_line cpu stats =
    codes "t " ++ (decimal cpu ++ (field (codes "folded") stats.folded
    ++ (field (codes "placed") stats.placed ++ (field (codes "evicted") stats.evicted
    ++ (field (codes "spilt") stats.spilt ++ (field (codes "direct") stats.direct ++ 10 ∷ []))))))

-- the lines of drivers, of which the first has this number
abbrev pub stats_lines : ℕ → List Stats → List ℕ
stats_lines cpu [] = []
stats_lines cpu (stats ∷ more) = stats_line cpu stats ++ stats_lines (cpu + 1) more

-- the line of the run
abbrev pub run_line : ℕ → List ℕ
run_line run = codes "run " ++ (decimal run ++ 10 ∷ [])

-- the line of the sums over the rows of a tally
abbrev pub total_line : List TallyRow → List ℕ
total_line rows = codes "total" ++ fates (sum_by taken_in rows)
    (sum_by (λ row. row.attributed) rows) (sum_by (λ row. row.unknown) rows)
    (sum_by (λ row. row.lost) rows)

-- the summary of a run: its number, a line for each processor and event with samples, one for each driver, and the sums
abbrev pub summary_of : Recorded → List Stats → List ℕ
summary_of kept stats = run_line kept.run ++ (tally_lines (tally_of kept)
    ++ (stats_lines 0 stats ++ total_line (tally_of kept)))
