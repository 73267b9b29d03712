use Rattle.std.proofs.Common.{◌≡◌, ◌+◌, ◌<◌, ◌∷◌, drop, length, arith, ◌∙◌}
use Rattle.trace_model.specs.Counting.{spots_in}
use Rattle.trace_model.specs.Traces.{recording_of}
use Rattle.direct_counts.proofs.Ranking.{drop_item}
use Rattle.direct_counts.proofs.Steps.{begun}
use Rattle.direct_counts.proofs.counting.counted.Goals as goal

pub loop-line-init : goal.loop-line-init
loop-line-init c = record {
  ranking = c.new-walk.ensures.ranking;
  goes_on = begun c.args.trace.now c.new-walk.result c.deref-line-items.result.now (rw c.new-walk.ensures.ranking c.requires) c.deref-line-items.ensures.value c.new-walk.ensures.mappings c.new-walk.ensures.epoch c.new-walk.ensures.counts (omega (arith, c.deref-line-items.ensures.len));
}

pub loop-line-preserved : goal.loop-line-preserved
loop-line-preserved c =
    let lines = c.deref-line-items.result.now in
    let i = c.loop-line.line-index in
    let bound : i < length lines = omega arith in
    let here : drop i lines ≡ c.line-item.result ∷ drop (i + 1) lines = drop_item lines i c.line-item.result bound c.line-item.is in
    let taken = c.in_ok-take.ensures c.args.trace.now.images.items (spots_in (recording_of c.args.trace.now) 0) (drop (i + 1) lines) (rw here at c.loop-line.invariant.goes_on) in
    record { ranking = taken.0 ∙ c.loop-line.invariant.ranking; goes_on = taken.1 }
