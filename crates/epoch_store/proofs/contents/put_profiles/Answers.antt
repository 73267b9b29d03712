-- The write of the next changed profile comes to the end.
use Rattle.std.proofs.Common.{◌≡◌, List, [], ◌∷◌, ◌++◌, ◌∙◌, ap, append_assoc, subst}
use Rattle.var_bytes.specs.Forms.{Spells}
use Rattle.database_model.specs.declared.profiles.ProfileRow.{ProfileRow}
use Rattle.database_model.specs.ProfileForm.{format1}
use Rattle.store_io.specs.FileNames.{file_name}
use Rattle.epoch_store.specs.Puts.{Put}
use Rattle.epoch_store.proofs.Lists.{written_more}
use Rattle.epoch_store.proofs.contents.put_profiles.Goals as goal

pub loop-update-preserved : goal.loop-update-preserved
loop-update-preserved g c =
    let u = c.update-item.result in
    let (bytes, added, spells) = c.in_ok-put_profile.ensures in
    let (ws, held, are) = c.loop-update.invariant in
    let w : Put = record { name = file_name c.file.result; bytes = bytes } in
    let named : w.name ≡ file_name (g.U.Changed.file c.args.g u) = ap file_name c.file.ensures in (
      ws ++ w ∷ [],
      added ∙ ap (λ l. l ++ w ∷ []) held ∙ append_assoc c.args.writes.now.items ws (w ∷ []),
      written_more (λ v. file_name (g.U.Changed.file c.args.g v)) g.U.Changed.rows c.args.updates.now c.loop-update.update-index u ws w c.loop-update-test.true c.update-item.is are named (subst (λ (r : List ProfileRow). Spells format1 bytes r) c.profile.ensures spells),
    )
