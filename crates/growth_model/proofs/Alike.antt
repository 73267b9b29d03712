-- Growth by the first parts looks at their segments alone.
use Rattle.std.proofs.Common.{◌≡◌, ℕ, zero, suc, ◌<◌, List, sym, ◌∙◌, subst, arith}
use Rattle.trace_model.specs.declared.notices.Record.{Record}
use Rattle.database_model.specs.Runs.{Segment, Recorded}
use Rattle.run_model.specs.Shares.{segment_of}
use Rattle.database_state.specs.Database.{Database}
use Rattle.growth_model.specs.Growth.{GrowsByPart}
use Rattle.growth_model.specs.Grown.{GrowsTo, Grown, epoch_after_parts}

grows_alike : (images : List (List ℕ)) (records : List Record) (kept other : Recorded) (parts : ℕ) (db new : Database)
    → kept.first_epoch ≡ other.first_epoch
    → ((part : ℕ) → part < parts → segment_of records kept part ≡ segment_of records other part)
    → GrowsTo images records kept parts db new → GrowsTo images records other parts db new
grows_alike images records kept other zero db new first same grows = grows
grows_alike images records kept other (suc last) db new first same grows =
    let at : segment_of records kept last ≡ segment_of records other last = same last (omega arith) in
    let moved : GrowsByPart images records (epoch_after_parts kept.first_epoch records (suc last)) (segment_of records other last) grows.0 new =
    subst (λ (s : Segment). GrowsByPart images records (epoch_after_parts kept.first_epoch records (suc last)) s grows.0 new) at grows.2 in (
      grows.0,
      grows_alike images records kept other last db grows.0 first (λ part below. same part (omega arith)) grows.1,
      subst (λ (e : ℕ). GrowsByPart images records (epoch_after_parts e records (suc last)) (segment_of records other last) grows.0 new) first moved,
    )

pub grown_alike : (images : List (List ℕ)) (records : List Record) (kept other : Recorded) (parts : ℕ) (db new : Database)
    → kept.run ≡ other.run → kept.first_epoch ≡ other.first_epoch
    → ((part : ℕ) → part < parts → segment_of records kept part ≡ segment_of records other part)
    → Grown images records kept parts db new → Grown images records other parts db new
grown_alike images records kept other parts db new run first same grown = record {
  within = grown.within;
  run = λ some. sym run ∙ grown.run some;
  first_epoch = λ some. sym first ∙ grown.first_epoch some;
  steps = grows_alike images records kept other parts db new first same grown.steps;
}
