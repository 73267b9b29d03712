-- A small run fits an empty database: the head and the database after each part.
use Rattle.std.proofs.Common.{ℕ, zero, suc, ◌<◌, ◌≤◌, List, [], ◌∷◌, ◌++◌, refl, sym, arith, Option, Some}
use Rattle.std.specs.Prelude.{filter}
use Rattle.trace_model.specs.declared.notices.Record.{Record}
use Rattle.database_model.specs.Runs.{Segment, Recorded}
use Rattle.run_model.specs.Shares.{segment_of}
use Rattle.database_state.specs.Database.{Database, empty_database}
use Rattle.database_state.specs.Heads.{Head, empty_head}
use Rattle.database_state.specs.Limits.{IsWithinLimits}
use Rattle.growth_model.specs.Growth.{IsNewName, Selects, GrowsByPart}
use Rattle.growth_model.specs.Grown.{GrowsTo, epoch_after_parts, part_count}
use Rattle.growth_model.specs.Fitting.{HeadGrows, HeadGrowsTo, KeepsLimits}
use Rattle.small_runs.specs.Small.{IsSmallRun}
use Rattle.small_runs.proofs.Counts.{part_adds, known_rows, unknown_rows, is_new, names, known_rows_are, unknown_rows_are, known_counts, unknown_counts, new_holds, new_fails, names_within}
use Rattle.small_runs.proofs.HeadRows.{known_list, unknown_list, few_known, few_unknown, known_rises, unknown_rises, known_grows, unknown_grows}

module _ (images : List (List ℕ)) (records : List Record) (kept : Recorded) where
  abbrev runs_after : ℕ → ℕ
  runs_after zero = 0
  runs_after (suc part) = 1

  abbrev segments_after : ℕ → List (Option Segment)
  segments_after zero = []
  segments_after (suc part) = segments_after part ++ Some (segment_of records kept part) ∷ []

  -- the head and the database after the first parts
  abbrev head_after : ℕ → Head
  head_after part = record {
    generation = part;
    epoch = 0;
    runs = runs_after part;
    names = names images records kept part;
    known = known_list images records kept part;
    unknown = unknown_list images records kept part;
  }

  abbrev database_after : ℕ → Database
  database_after part = record {
    last_epoch = 0;
    runs = runs_after part;
    names = names images records kept part;
    known = λ e name v. Some (known_rows images records kept part e name v);
    unknown = λ e v. Some (unknown_rows images records kept part e v);
    segments = segments_after part;
  }

  module _ (small : IsSmallRun images records kept) where
    chosen : (part : ℕ) → Selects (IsNewName (names images records kept part) (part_adds images records kept part)) images
        (filter (is_new images records kept part (names images records kept part)) images)
    chosen part = record {
      test = is_new images records kept part (names images records kept part);
      holds = λ name e. new_holds images records kept small part (names images records kept part) name e;
      fails = λ name e new. new_fails images records kept small part (names images records kept part) name e new;
      list = refl;
    }

    grows : (part : ℕ) → GrowsByPart images records (epoch_after_parts kept.first_epoch records (suc part)) (segment_of records kept part) (database_after part) (database_after (suc part))
    grows part = record {
      last_epoch = sym (small.one_epoch (suc part));
      runs = sym small.run;
      more = filter (is_new images records kept part (names images records kept part)) images;
      names = refl;
      chosen = chosen part;
      known = λ e name v. (
        known_rows images records kept (suc part) e name v,
        refl,
        record {
          are_rows = known_rows_are images records kept small (suc part) e name v;
          counts = λ o. omega (arith, known_counts images records kept small (suc part) e name v o, known_counts images records kept small part e name v o);
        },
      );
      unknown = λ e v. (
        unknown_rows images records kept (suc part) e v,
        refl,
        record {
          are_rows = unknown_rows_are images records kept small (suc part) e v;
          counts = λ o. omega (arith, unknown_counts images records kept small (suc part) e v o, unknown_counts images records kept small part e v o);
        },
      );
      segments = refl;
    }

    head_grows : (part : ℕ) → part < part_count records
        → HeadGrows images (part_adds images records kept part) (epoch_after_parts kept.first_epoch records (suc part)) (segment_of records kept part) (head_after part) (head_after (suc part))
    head_grows part there = record {
      generation = omega arith;
      last_epoch = sym (small.one_epoch (suc part));
      runs = sym small.run;
      more = filter (is_new images records kept part (names images records kept part)) images;
      names = refl;
      chosen = chosen part;
      known_order = known_rises images records kept (suc part);
      unknown_order = unknown_rises images records kept (suc part);
      known = known_grows images records kept small part there;
      unknown = unknown_grows images records kept small part;
    }

    grows_to : (parts : ℕ) → GrowsTo images records kept parts empty_database (database_after parts)
    grows_to zero = refl
    grows_to (suc part) = (database_after part, grows_to part, grows part)

    heads_to : (parts : ℕ) → parts ≤ part_count records → HeadGrowsTo images records kept parts empty_head (head_after parts)
    heads_to zero within = refl
    heads_to (suc part) within = (head_after part, heads_to part (omega arith), head_grows part (omega arith))

    within_limits : (parts : ℕ) → parts ≤ part_count records → IsWithinLimits (head_after parts) (database_after parts)
    within_limits parts within = record {
      images = omega (arith, names_within images records kept small parts within, small.few);
      rows = omega (arith, few_known images records kept parts, few_unknown images records kept parts, small.rows);
      known = λ e name v. known_rows_are images records kept small parts e name v;
      unknown = λ e v. unknown_rows_are images records kept small parts e v;
    }

    pub fits : KeepsLimits images records kept empty_head empty_database
    fits parts within = record {
      head_after = head_after parts;
      after = database_after parts;
      heads = heads_to parts within;
      grown = record {
        within = within;
        run = λ some. omega (arith, small.run);
        first_epoch = λ some. small.first_epoch;
        steps = grows_to parts;
      };
      within = within_limits parts within;
    }
