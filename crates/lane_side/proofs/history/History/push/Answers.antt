use Rattle.std.proofs.Common.{◌≡◌, ◌≤◌, ◌∙◌, ◌-◌, ◌++◌, ◌∷◌, [], List, ℕ, length, ap, sym, subst}
use Rattle.std.specs.Vec.{vec_len, vec_capacity}
use Rattle.sample_key.specs.Sent.{Sent}
use Rattle.lane_side.specs.HandedSoFar.{HandedSoFar, one_more}
use Rattle.lane_side.specs.Cuts.{cut}
use Rattle.lane_side.proofs.CutLemmas.{batch, pushed_in, pushed_cut, copied}
use Rattle.lane_side.proofs.history.History.push.Goals as goal

-- a history of these batches and this room
abbrev kept_of : List Sent → ℕ → ℕ → HandedSoFar
kept_of s h n = record { sent = s; room = record { hands = h; entries = n } }

pub invariant_of-self : goal.invariant_of-self
invariant_of-self g c =
    let b = c.self.inside in let n = c.len.result - c.len-before.result in let fs = g.B.Body.entries c.args.body.now in
    let d = c.in-Ok.ensures.ok in
    let e = copied b.entries.items c.copy_to.new.out.items fs c.len-before.result c.len.result (vec_len b.entries) (vec_len c.copy_to.new.out) d c.len-before.ensures c.len.ensures b.entries.ok.0 c.copy_to.new.out.ok.0 in
    pushed_in b.heads.items c.push.new.self.items b.entries.items c.copy_to.new.out.items fs c.args.note n b.hands b.left (vec_capacity b.heads) (vec_capacity b.entries) (vec_capacity c.push.new.self) (vec_capacity c.copy_to.new.out)
    c.in-Ok-push.ensures.items d e
    (subst (λ (k : HandedSoFar). 1 ≤ k.room.hands) (sym c.self.view_is) c.requires.hands) (subst (λ (k : HandedSoFar). length fs ≤ k.room.entries) (sym c.self.view_is) c.requires.entries)
    c.self.invariant.0 c.self.invariant.1 c.self.invariant.2 c.push.ensures.capacity c.copy_to.ensures.capacity

pub returns : goal.returns
returns g c =
    let b = c.self.inside in let n = c.len.result - c.len-before.result in let fs = g.B.Body.entries c.args.body.now in
    let d = c.in-Ok.ensures.ok in
    let e = copied b.entries.items c.copy_to.new.out.items fs c.len-before.result c.len.result (vec_len b.entries) (vec_len c.copy_to.new.out) d c.len-before.ensures c.len.ensures b.entries.ok.0 c.copy_to.new.out.ok.0 in
    let p = pushed_cut b.heads.items c.push.new.self.items b.entries.items c.copy_to.new.out.items fs c.args.note n c.in-Ok-push.ensures.items d e c.self.invariant.0 in
    let q : kept_of (cut c.push.new.self.items c.copy_to.new.out.items) (b.hands - 1) (b.left - n) ≡ kept_of (cut b.heads.items b.entries.items ++ batch c.args.note fs ∷ []) (b.hands - 1) (b.left - length fs) =
    λ i. kept_of (p i) (b.hands - 1) (b.left - e i) in
    q ∙ ap (λ (k : HandedSoFar). one_more k (batch c.args.note fs)) c.self.view_is
