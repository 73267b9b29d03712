use Rattle.std.proofs.Common.{ap, refl, ◌∙◌}
use Rattle.direct_counts.specs.Sites.{site_at}
use Rattle.direct_counts.proofs.Steps.{may_apply, may_begin, may_count, may_rank, record_taken, sample_taken}
use Rattle.direct_counts.proofs.walks.Walk.take.Goals as goal

pub site_of-site-requires : goal.site_of-site-requires
site_of-site-requires c = rw c.deref.ensures.value (may_rank c.args.self.now c.args.line.now c.in-Sample.key.pid c.in-Sample.key.pc c.place-place.result c.requires c.place-place.ensures.place)

pub count-requires : goal.count-requires
count-requires c = may_count c.args.self.now c.args.line.now c.in-Sample.key c.place-place.result c.site_of-site.result c.requires c.place-place.ensures.place (c.site_of-site.ensures ∙ ap (λ ranks. site_at c.args.self.now.epoch ranks c.in-Sample.key c.place-place.result) c.deref.ensures.value)

pub returns-in-Sample : goal.returns-in-Sample
returns-in-Sample c = sample_taken c.count.result c.args.self.now (record c.args.self.now { counts = c.count.new.counts }) c.args.line.now c.in-Sample.cpu c.in-Sample.key c.place-place.result c.site_of-site.result c.in-Sample.is c.place-place.ensures.place (c.site_of-site.ensures ∙ ap (λ ranks. site_at c.args.self.now.epoch ranks c.in-Sample.key c.place-place.result) c.deref.ensures.value) refl refl refl c.count.ensures

pub apply-requires : goal.apply-requires
apply-requires c = may_apply c.args.self.now c.in-Rec.entry c.args.line.now c.in-Rec.is c.requires

pub next_epoch-self-requires : goal.next_epoch-self-requires
next_epoch-self-requires c = may_begin c.args.self.now c.in-Rec.entry c.args.line.now c.in-Rec.is c.requires

pub returns-in_ok-apply-in-Rec : goal.returns-in_ok-apply-in-Rec
returns-in_ok-apply-in-Rec c = record_taken c.args.self.now (record c.args.self.now { mappings = c.apply.new.self; epoch = c.next_epoch-self.result }) c.args.line.now c.in-Rec.entry c.in-Rec.is c.in_ok-apply-in-Rec.ensures.applied refl c.next_epoch-self.ensures refl
