use Rattle.std.proofs.Common.{◌≡◌, ◌∙◌, inl, inr, subst, sym}
use Rattle.epoch_store.specs.Databases.{head_of}
use Rattle.dcpi_top.specs.declared.commands.Command.TheVariants.{Tidy}
use Rattle.dcpi_top.specs.declared.refusals.Refusal.TheVariants.{Memory}
use Rattle.dcpi_top.specs.Causes.{IsCause}
use Rattle.dcpi_top.specs.Refusals.{status_of}
use Rattle.dcpi_top.specs.Streams.{seen}
use Rattle.dcpi_top.specs.Tidies.{LeavesDatabase}
use Rattle.database_state.specs.Standing.{HaveHead}
use Rattle.dcpi_top.proofs.Listed.{if_some}
use Rattle.dcpi_top.proofs.Passing.{passes, refuses}
use Rattle.dcpi_top.proofs.Tidied.{all_of_them, leaves, not_done, some_first, tidy_stopped, whole}
use Rattle.dcpi_top.proofs.tidies.tidy_text.Goals as goal

-- ---- the database was not opened

pub returns-in_err-db-clause-leaves : goal.returns-in_err-db-clause-leaves
returns-in_err-db-clause-leaves g c input = inl c.in_err-db.ensures.reads

pub returns-in_err-db-clause-part : goal.returns-in_err-db-clause-part
returns-in_err-db-clause-part g c = inl c.in_err-db.ensures.reads.files

-- ---- the names were not listed, or a removal failed

pub returns-in_err-removed-clause-gives : goal.returns-in_err-removed-clause-gives
returns-in_err-removed-clause-gives g c input unread = refuses (λ text. text.items) Tidy
    input (seen g.D.Store.files g.D.Store.faults c.args.store.now c.tidy.new.store) _ _ c.from_residual-in_err-removed.ensures.1
    (λ refusal is. tidy_stopped input (seen g.D.Store.files g.D.Store.faults c.args.store.now c.tidy.new.store) _ _ refusal unread
    c.in_ok-db.ensures.cause c.in_err-removed.ensures.cause is)

pub returns-in_err-removed-clause-part : goal.returns-in_err-removed-clause-part
returns-in_err-removed-clause-part g c = inr (some_first (seen g.D.Store.files g.D.Store.faults c.args.store.now c.tidy.new.store) _ _ (head_of c.in_ok-db.db)
    (record {
      opened = c.in_ok-db.ensures.head;
      files = c.in_ok-db.ensures.reads.files;
      counted = c.in_ok-db.ensures.cause;
    })
    c.in_err-removed.ensures.told c.in_err-removed.ensures.part)

pub returns-in_err-removed-clause-leaves : goal.returns-in_err-removed-clause-leaves
returns-in_err-removed-clause-leaves g c input = inr (passes _ (λ status. LeavesDatabase g.D.Store.files g.D.Store.moment g.D.Store.left_since c.args.store.now c.tidy.new.store status) _
    c.from_residual-in_err-removed.ensures.1
    (λ refusal is. leaves g.D.Store.files g.D.Store.moment g.D.Store.left_since c.args.store.now c.open_database.new.store c.tidy.new.store (head_of c.in_ok-db.db)
    c.files_stand_for_one_database.ensures.heads c.in_ok-db.ensures.head c.in_ok-db.ensures.reads
    (record {
      steps = c.in_err-removed.ensures.steps;
      any_moment = c.in_err-removed.ensures.any_moment;
      present = c.in_err-removed.ensures.present;
    })
    (status_of refusal) (λ done. absurd (not_done c.in_err-removed.field-0.0 refusal is done))))

-- ---- the text was not made

pub returns-in_err-text-clause-gives : goal.returns-in_err-text-clause-gives
returns-in_err-text-clause-gives g c input unread = refuses (λ text. text.items) Tidy
    input (seen g.D.Store.files g.D.Store.faults c.args.store.now c.tidy.new.store) (λ refusal. refusal ≡ Memory) _ c.from_residual-in_err-text.ensures.1
    (λ refusal is. subst (λ r. IsCause Tidy input (seen g.D.Store.files g.D.Store.faults c.args.store.now c.tidy.new.store) r) (sym is)
    (unread.faults, c.in_ok-removed.ensures.cause ∙ c.in_ok-db.ensures.cause))

pub returns-in_err-text-clause-part : goal.returns-in_err-text-clause-part
returns-in_err-text-clause-part g c = inr (all_of_them (seen g.D.Store.files g.D.Store.faults c.args.store.now c.tidy.new.store) _ _ (head_of c.in_ok-db.db)
    (record {
      opened = c.in_ok-db.ensures.head;
      files = c.in_ok-db.ensures.reads.files;
      counted = c.in_ok-db.ensures.cause;
    })
    c.in_ok-removed.ensures.told c.in_ok-removed.removed c.in_ok-removed.ensures.files)

pub returns-in_err-text-clause-leaves : goal.returns-in_err-text-clause-leaves
returns-in_err-text-clause-leaves g c input = inr (leaves g.D.Store.files g.D.Store.moment g.D.Store.left_since c.args.store.now c.open_database.new.store c.tidy.new.store (head_of c.in_ok-db.db)
    c.files_stand_for_one_database.ensures.heads c.in_ok-db.ensures.head c.in_ok-db.ensures.reads
    (record {
      steps = c.in_ok-removed.ensures.steps;
      any_moment = c.in_ok-removed.ensures.any_moment;
      present = c.in_ok-removed.ensures.present;
    })
    _ (λ done. c.in_ok-removed.ensures.settled))

-- ---- it was

pub returns-clause-gives : goal.returns-clause-gives
returns-clause-gives g c input unread = (
  record {
    head = head_of c.in_ok-db.db;
    removed = c.in_ok-removed.removed;
    opened = if_some (g.D.Store.files c.args.store.now) (λ f. HaveHead f (head_of c.in_ok-db.db)) c.in_ok-db.ensures.head;
    tidied = whole (seen g.D.Store.files g.D.Store.faults c.args.store.now c.tidy.new.store) _ _ (head_of c.in_ok-db.db)
        (record {
          opened = c.in_ok-db.ensures.head;
          files = c.in_ok-db.ensures.reads.files;
          counted = c.in_ok-db.ensures.cause;
        })
        c.in_ok-removed.ensures.told c.in_ok-removed.removed c.in_ok-removed.ensures.files;
    printed = c.in_ok-text.ensures;
  },
  (unread.faults, c.in_ok-removed.ensures.cause ∙ c.in_ok-db.ensures.cause),
)

pub returns-clause-part : goal.returns-clause-part
returns-clause-part g c = inr (all_of_them (seen g.D.Store.files g.D.Store.faults c.args.store.now c.tidy.new.store) _ _ (head_of c.in_ok-db.db)
    (record {
      opened = c.in_ok-db.ensures.head;
      files = c.in_ok-db.ensures.reads.files;
      counted = c.in_ok-db.ensures.cause;
    })
    c.in_ok-removed.ensures.told c.in_ok-removed.removed c.in_ok-removed.ensures.files)

pub returns-clause-leaves : goal.returns-clause-leaves
returns-clause-leaves g c input = inr (leaves g.D.Store.files g.D.Store.moment g.D.Store.left_since c.args.store.now c.open_database.new.store c.tidy.new.store (head_of c.in_ok-db.db)
    c.files_stand_for_one_database.ensures.heads c.in_ok-db.ensures.head c.in_ok-db.ensures.reads
    (record {
      steps = c.in_ok-removed.ensures.steps;
      any_moment = c.in_ok-removed.ensures.any_moment;
      present = c.in_ok-removed.ensures.present;
    })
    0 (λ done. c.in_ok-removed.ensures.settled))
