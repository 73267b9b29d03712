-- Each exit has its fault, and the change that is made grows the database.
use Rattle.std.proofs.Common.{◌≡◌, sym, subst}
use Rattle.std.proofs.lemmas.Result.{err_from_is_err_and}
use Rattle.image_catalog.specs.Images.{AreImages}
use Rattle.database_state.specs.Updates.{Update, Fits, head_after}
use Rattle.epoch_store.specs.Databases.{head_of}
use Rattle.growth_model.specs.Fitting.{HeadGrows}
use Rattle.profile_merge.specs.Changing.{OfGathered, GrowsFiles}
use Rattle.profile_merge.proofs.Changed.{Numbered, Made, made_of, change_is, images_full, images_fail, parts_fail, fail_answers, parts_gathered, fits_made, grows_made, head_made, no_fault_made}
use Rattle.profile_merge.proofs.changing.change_of.Goals as goal

pub returns-in_err-numbered-clause-fails : goal.returns-in_err-numbered-clause-fails
returns-in_err-numbered-clause-fails g c =
    let gathered = c.args.gathered.now in
    let names = c.args.names.now in
    let h = head_of c.args.db.now in
    let used = c.in_ok-used.used.items in
    let cat : c.catalog.result.now ≡ h.names = c.catalog.ensures in
    let slice : c.deref.result.now ≡ used = c.deref.ensures.value in
    let n : Numbered gathered names h used = record { sums = c.in_ok-used.ensures.counts; apart = c.requires.distinct; within = c.requires.images; len = c.in_ok-used.ensures.len; marks = c.in_ok-used.ensures.marks; held = subst AreImages cat c.number_images.ensures.images } in
    let full = images_full h names used c.deref.result.now c.catalog.result.now c.in_err-numbered.field-0.0 cat slice c.in_err-numbered.ensures.full in
    let p = err_from_is_err_and c.from_residual-in_err-numbered.result c.from_residual-in_err-numbered.ensures.1 in
    rw (p.1, p.2) (λ files told. images_fail gathered names h used files c.in_err-numbered.field-0.0 n full)

pub returns-in_err-numbered-clause-answers : goal.returns-in_err-numbered-clause-answers
returns-in_err-numbered-clause-answers g c =
    let gathered = c.args.gathered.now in
    let names = c.args.names.now in
    let h = head_of c.args.db.now in
    let used = c.in_ok-used.used.items in
    let cat : c.catalog.result.now ≡ h.names = c.catalog.ensures in
    let slice : c.deref.result.now ≡ used = c.deref.ensures.value in
    let n : Numbered gathered names h used = record { sums = c.in_ok-used.ensures.counts; apart = c.requires.distinct; within = c.requires.images; len = c.in_ok-used.ensures.len; marks = c.in_ok-used.ensures.marks; held = subst AreImages cat c.number_images.ensures.images } in
    let full = images_full h names used c.deref.result.now c.catalog.result.now c.in_err-numbered.field-0.0 cat slice c.in_err-numbered.ensures.full in
    let p = err_from_is_err_and c.from_residual-in_err-numbered.result c.from_residual-in_err-numbered.ensures.1 in
    rw (p.1, p.2) (λ files fault told. fail_answers Update gathered names h files c.in_err-numbered.field-0.0 fault (images_fail gathered names h used files c.in_err-numbered.field-0.0 n full))

pub renew_all-requires : goal.renew_all-requires
renew_all-requires g c = parts_gathered c.deref-2.result.now c.args.gathered.now c.in_ok-parts.parts.entries c.in_ok-parts.ensures.parts c.in_ok-parts.ensures.ordered

pub returns-in_err-all-clause-fails : goal.returns-in_err-all-clause-fails
returns-in_err-all-clause-fails g c =
    let gathered = c.args.gathered.now in
    let names = c.args.names.now in
    let h = head_of c.args.db.now in
    let used = c.in_ok-used.used.items in
    let cat : c.catalog.result.now ≡ h.names = c.catalog.ensures in
    let slice : c.deref.result.now ≡ used = c.deref.ensures.value in
    let n : Numbered gathered names h used = record { sums = c.in_ok-used.ensures.counts; apart = c.requires.distinct; within = c.requires.images; len = c.in_ok-used.ensures.len; marks = c.in_ok-used.ensures.marks; held = subst AreImages cat c.number_images.ensures.images } in
    let parts = c.in_ok-parts.parts.entries in
    let made : Made gathered names h used parts = made_of gathered names h used c.deref.result.now c.catalog.result.now c.in_ok-numbered.numbered.names.items c.deref-2.result.now c.in_ok-numbered.numbered.numbers.items parts n cat slice c.in_ok-numbered.ensures.names c.in_ok-numbered.ensures.numbers c.deref-2.ensures.value c.in_ok-numbered.ensures.few c.in_ok-parts.ensures.parts c.in_ok-parts.ensures.ordered in
    let p = err_from_is_err_and c.from_residual-in_err-all.result c.from_residual-in_err-all.ensures.1 in
    rw (p.1, p.2) (λ files told. parts_fail gathered names h used parts files c.in_err-all.field-0.0 made (c.in_err-all.ensures.renewed files told))

pub returns-in_err-all-clause-answers : goal.returns-in_err-all-clause-answers
returns-in_err-all-clause-answers g c =
    let gathered = c.args.gathered.now in
    let names = c.args.names.now in
    let h = head_of c.args.db.now in
    let used = c.in_ok-used.used.items in
    let cat : c.catalog.result.now ≡ h.names = c.catalog.ensures in
    let slice : c.deref.result.now ≡ used = c.deref.ensures.value in
    let n : Numbered gathered names h used = record { sums = c.in_ok-used.ensures.counts; apart = c.requires.distinct; within = c.requires.images; len = c.in_ok-used.ensures.len; marks = c.in_ok-used.ensures.marks; held = subst AreImages cat c.number_images.ensures.images } in
    let parts = c.in_ok-parts.parts.entries in
    let made : Made gathered names h used parts = made_of gathered names h used c.deref.result.now c.catalog.result.now c.in_ok-numbered.numbered.names.items c.deref-2.result.now c.in_ok-numbered.numbered.numbers.items parts n cat slice c.in_ok-numbered.ensures.names c.in_ok-numbered.ensures.numbers c.deref-2.ensures.value c.in_ok-numbered.ensures.few c.in_ok-parts.ensures.parts c.in_ok-parts.ensures.ordered in
    let p = err_from_is_err_and c.from_residual-in_err-all.result c.from_residual-in_err-all.ensures.1 in
    rw (p.1, p.2) (λ files fault told. fail_answers Update gathered names h files c.in_err-all.field-0.0 fault (parts_fail gathered names h used parts files c.in_err-all.field-0.0 made (c.in_err-all.ensures.renewed files told)))

pub returns-clause-fits : goal.returns-clause-fits
returns-clause-fits g c = λ follows.
    let gathered = c.args.gathered.now in
    let names = c.args.names.now in
    let h = head_of c.args.db.now in
    let used = c.in_ok-used.used.items in
    let cat : c.catalog.result.now ≡ h.names = c.catalog.ensures in
    let slice : c.deref.result.now ≡ used = c.deref.ensures.value in
    let n : Numbered gathered names h used = record { sums = c.in_ok-used.ensures.counts; apart = c.requires.distinct; within = c.requires.images; len = c.in_ok-used.ensures.len; marks = c.in_ok-used.ensures.marks; held = subst AreImages cat c.number_images.ensures.images } in
    let parts = c.in_ok-parts.parts.entries in
    let made : Made gathered names h used parts = made_of gathered names h used c.deref.result.now c.catalog.result.now c.in_ok-numbered.numbered.names.items c.deref-2.result.now c.in_ok-numbered.numbered.numbers.items parts n cat slice c.in_ok-numbered.ensures.names c.in_ok-numbered.ensures.numbers c.deref-2.ensures.value c.in_ok-numbered.ensures.few c.in_ok-parts.ensures.parts c.in_ok-parts.ensures.ordered in
    let all = c.in_ok-all.all.items in
    let change = change_is names h used c.deref.result.now c.catalog.result.now c.in_ok-numbered.numbered.names.items c.in_ok-kinds.kinds.known.items c.in_ok-kinds.kinds.unknown.items all c.args.epoch c.args.segment cat slice c.in_ok-numbered.ensures.names c.in_ok-kinds.ensures.known c.in_ok-kinds.ensures.unknown in
    subst (λ (u : Update). Fits h.epoch h.runs h.names u) (sym change) (fits_made gathered names h used parts all c.args.epoch c.args.segment made c.requires.epochs c.in_ok-all.ensures.owners follows)

pub returns-clause-grows : goal.returns-clause-grows
returns-clause-grows g c =
    let gathered = c.args.gathered.now in
    let names = c.args.names.now in
    let h = head_of c.args.db.now in
    let used = c.in_ok-used.used.items in
    let cat : c.catalog.result.now ≡ h.names = c.catalog.ensures in
    let slice : c.deref.result.now ≡ used = c.deref.ensures.value in
    let n : Numbered gathered names h used = record { sums = c.in_ok-used.ensures.counts; apart = c.requires.distinct; within = c.requires.images; len = c.in_ok-used.ensures.len; marks = c.in_ok-used.ensures.marks; held = subst AreImages cat c.number_images.ensures.images } in
    let parts = c.in_ok-parts.parts.entries in
    let made : Made gathered names h used parts = made_of gathered names h used c.deref.result.now c.catalog.result.now c.in_ok-numbered.numbered.names.items c.deref-2.result.now c.in_ok-numbered.numbered.numbers.items parts n cat slice c.in_ok-numbered.ensures.names c.in_ok-numbered.ensures.numbers c.deref-2.ensures.value c.in_ok-numbered.ensures.few c.in_ok-parts.ensures.parts c.in_ok-parts.ensures.ordered in
    let all = c.in_ok-all.all.items in
    let change = change_is names h used c.deref.result.now c.catalog.result.now c.in_ok-numbered.numbered.names.items c.in_ok-kinds.kinds.known.items c.in_ok-kinds.kinds.unknown.items all c.args.epoch c.args.segment cat slice c.in_ok-numbered.ensures.names c.in_ok-kinds.ensures.known c.in_ok-kinds.ensures.unknown in
    subst (λ (u : Update). OfGathered gathered names (λ added. GrowsFiles names added h c.args.segment u (g.D.Store.files c.args.store.now))) (sym change)
    (grows_made gathered names h used parts all c.args.epoch c.args.segment (g.D.Store.files c.args.store.now) made c.args.db.now.range c.in_ok-all.ensures.renewed c.told_profiles_rise.ensures.known c.told_profiles_rise.ensures.unknown)

pub returns-clause-head : goal.returns-clause-head
returns-clause-head g c =
    let gathered = c.args.gathered.now in
    let names = c.args.names.now in
    let h = head_of c.args.db.now in
    let used = c.in_ok-used.used.items in
    let cat : c.catalog.result.now ≡ h.names = c.catalog.ensures in
    let slice : c.deref.result.now ≡ used = c.deref.ensures.value in
    let n : Numbered gathered names h used = record { sums = c.in_ok-used.ensures.counts; apart = c.requires.distinct; within = c.requires.images; len = c.in_ok-used.ensures.len; marks = c.in_ok-used.ensures.marks; held = subst AreImages cat c.number_images.ensures.images } in
    let parts = c.in_ok-parts.parts.entries in
    let made : Made gathered names h used parts = made_of gathered names h used c.deref.result.now c.catalog.result.now c.in_ok-numbered.numbered.names.items c.deref-2.result.now c.in_ok-numbered.numbered.numbers.items parts n cat slice c.in_ok-numbered.ensures.names c.in_ok-numbered.ensures.numbers c.deref-2.ensures.value c.in_ok-numbered.ensures.few c.in_ok-parts.ensures.parts c.in_ok-parts.ensures.ordered in
    let all = c.in_ok-all.all.items in
    let change = change_is names h used c.deref.result.now c.catalog.result.now c.in_ok-numbered.numbered.names.items c.in_ok-kinds.kinds.known.items c.in_ok-kinds.kinds.unknown.items all c.args.epoch c.args.segment cat slice c.in_ok-numbered.ensures.names c.in_ok-kinds.ensures.known c.in_ok-kinds.ensures.unknown in
    subst (λ (u : Update). OfGathered gathered names (λ added. HeadGrows names added c.args.epoch c.args.segment h (head_after u h))) (sym change)
    (head_made gathered names h used parts all c.args.epoch c.args.segment made c.args.db.now.range c.in_ok-all.ensures.owners)

pub returns-clause-answers : goal.returns-clause-answers
returns-clause-answers g c = λ files fault told.
    let gathered = c.args.gathered.now in
    let names = c.args.names.now in
    let h = head_of c.args.db.now in
    let used = c.in_ok-used.used.items in
    let cat : c.catalog.result.now ≡ h.names = c.catalog.ensures in
    let slice : c.deref.result.now ≡ used = c.deref.ensures.value in
    let n : Numbered gathered names h used = record { sums = c.in_ok-used.ensures.counts; apart = c.requires.distinct; within = c.requires.images; len = c.in_ok-used.ensures.len; marks = c.in_ok-used.ensures.marks; held = subst AreImages cat c.number_images.ensures.images } in
    let parts = c.in_ok-parts.parts.entries in
    let made : Made gathered names h used parts = made_of gathered names h used c.deref.result.now c.catalog.result.now c.in_ok-numbered.numbered.names.items c.deref-2.result.now c.in_ok-numbered.numbered.numbers.items parts n cat slice c.in_ok-numbered.ensures.names c.in_ok-numbered.ensures.numbers c.deref-2.ensures.value c.in_ok-numbered.ensures.few c.in_ok-parts.ensures.parts c.in_ok-parts.ensures.ordered in
    no_fault_made (Unit {0}) gathered names h used parts files c.in_ok-all.all.items fault tt made (c.in_ok-all.ensures.renewed files told)
