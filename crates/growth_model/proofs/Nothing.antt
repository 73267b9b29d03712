-- The run of nothing fits an empty database.
use Rattle.std.proofs.Common.{◌≡◌, zero, suc, ◌+◌, ◌<◌, ◌≤◌, [], ◌∷◌, refl, arith, Bool, true, false, Some, inr}
use Rattle.std.specs.Prelude.{if◌then◌else◌, ◌==◌}
use Rattle.trace_model.specs.Recording.{Recording}
use Rattle.database_model.specs.Runs.{Recorded, Segment}
use Rattle.database_state.specs.Database.{Database, empty_database}
use Rattle.database_state.specs.Heads.{Head, empty_head}
use Rattle.growth_model.specs.Additions.{Additions, additions_of}
use Rattle.growth_model.specs.Growth.{IsGrown, IsNewName, Selects, GrowsByPart}
use Rattle.growth_model.specs.Fitting.{HeadGrows, KeepsLimits}
use Rattle.growth_model.proofs.Rows.{usual, drained, kept, kept_of}

abbrev nothing : Recording
nothing = usual [] [] []

abbrev nothing_kept : Recorded
nothing_kept = kept (drained 0 0 1 0 1 [] [] ∷ [])

nothing_is_kept : kept_of nothing ≡ nothing_kept
nothing_is_kept = refl

abbrev segment : Segment
segment = record { run = 1; part = 0; last = true; first_epoch = 0; drains = drained 0 0 1 0 1 [] [] ∷ []; losses = [] ∷ [] }

abbrev after : Database
after = record empty_database { runs = 1; segments = Some segment ∷ [] }

abbrev head_after : Head
head_after = record empty_head { generation = 1; runs = 1 }

abbrev adds : Additions
adds = additions_of [] [] (drained 0 0 1 0 1 [] [] ∷ [])

never : (in_epoch : Bool) → 0 < (if in_epoch then 0 else 0) + 0 → ⊥
never true some = omega arith
never false some = omega arith

stays : (in_epoch : Bool) → IsGrown (λ offset. (if in_epoch then 0 else 0) + 0) (Some []) (Some [])
stays true = ([], refl, record { are_rows = tt; counts = λ offset. refl })
stays false = ([], refl, record { are_rows = tt; counts = λ offset. refl })

no_names : Selects (IsNewName [] adds) [] []
no_names = record {
  test = λ name. false;
  holds = λ name is. absurd (cc);
  fails = λ name not new. never (new.epoch == 0) new.counted.some;
  list = refl;
}

grows : GrowsByPart [] [] 0 segment empty_database after
grows = record {
  last_epoch = refl;
  runs = refl;
  more = [];
  names = refl;
  chosen = no_names;
  known = λ epoch name event. stays (epoch == 0);
  unknown = λ epoch event. stays (epoch == 0);
  segments = refl;
}

heads : HeadGrows [] adds 0 segment empty_head head_after
heads = record {
  generation = refl;
  last_epoch = refl;
  runs = refl;
  more = [];
  names = refl;
  chosen = no_names;
  known_order = refl;
  unknown_order = refl;
  known = λ epoch image event. inr (λ is. never (epoch == 0) is.counted.some, refl);
  unknown = λ epoch event. inr (λ is. never (epoch == 0) is.some, refl);
}

fits : KeepsLimits [] [] nothing_kept empty_head empty_database
fits zero within = record {
  head_after = empty_head;
  after = empty_database;
  heads = refl;
  grown = record { within = omega arith; run = λ some. refl; first_epoch = λ some. refl; steps = refl };
  within = record { images = omega arith; rows = omega arith; known = λ epoch name event. tt; unknown = λ epoch event. tt };
}
fits (suc zero) within = record {
  head_after = head_after;
  after = after;
  heads = (empty_head, refl, heads);
  grown = record { within = omega arith; run = λ some. refl; first_epoch = λ some. refl; steps = (empty_database, refl, grows) };
  within = record { images = omega arith; rows = omega arith; known = λ epoch name event. tt; unknown = λ epoch event. tt };
}
fits (suc (suc parts)) within = let most : suc (suc parts) ≤ 1 = within in absurd (omega arith)
