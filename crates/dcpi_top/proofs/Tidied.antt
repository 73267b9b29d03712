-- A tidying, whole or cut short: what it owes, from what the tidying below it left.
use Rattle.std.proofs.Common.{◌≡◌, ◌≤◌, ◌⊎◌, inl, inr, ℕ, List, [], ◌∷◌, None, Some, Option, refl, sym, subst, ◌∙◌}
use Rattle.std.specs.Prelude.{filter}
use Rattle.outside_io.specs.Causes.{Rose}
use Rattle.store_io.specs.Files.{Files, with_file}
use Rattle.store_io.specs.Outcomes.{AfterSome, Told}
use Rattle.store_io.specs.Crashes.{LeavesOnly, LeftNow, Passes}
use Rattle.store_io.proofs.Chains.{after_reads, chain}
use Rattle.database_state.specs.Database.{Database}
use Rattle.database_state.specs.Heads.{Head}
use Rattle.database_state.specs.Standing.{CrashesSay, HaveHead, SaysWhereTold, database_of}
use Rattle.database_state.specs.declared.faults.DbFault.{DbFault}
use Rattle.database_state.specs.declared.faults.DbFault.TheVariants as faults
use Rattle.dcpid_core.specs.Storing.{TellsNow}
use Rattle.store_tidy.specs.Faults.{IsTidyCause}
use Rattle.store_tidy.specs.Removals.{FirstRemoved, LeftUntidy, Tidied, without}
use Rattle.store_tidy.specs.Unused.{LosesUnused, Says, is_unused, without_unused}
use Rattle.store_tidy.proofs.Gone.{all_removed}
use Rattle.dcpi_top.specs.declared.commands.Command.TheVariants.{Tidy}
use Rattle.dcpi_top.specs.declared.refusals.Refusal.{Refusal}
use Rattle.dcpi_top.specs.Refusals.{IsOfDatabase, status_of}
use Rattle.dcpi_top.specs.Streams.{Stream, Disk, IsUntouched}
use Rattle.dcpi_top.specs.Moments.{ReadsOnly}
use Rattle.dcpi_top.specs.Tidies.{IsTidiedInPart, LeavesDatabase, TidiesInPart, TidiesWhole}
use Rattle.dcpi_top.specs.Causes.{IsCause}
use Rattle.dcpi_top.proofs.Listed.{WasOpened, if_some}
use Rattle.dcpi_top.proofs.Replayed.{OneHead, status_is}

-- ---- the files

-- files that are told say what they said
saying : (S : Files → Files → Type 0) (h : Head) (old new : Option Files) → ((f : Files) → old ≡ Some f → HaveHead f h) → Told S old new
    → ((said : Database) → SaysWhereTold old h said → SaysWhereTold new h said) → Told (λ f g. S f g × Says h (database_of h f) g) old new
saying S h None new opened told says = told
saying S h (Some f) new opened (g, now, made) says = (g, now, (made, says (database_of h f) here g now))
  where
    here : SaysWhereTold (Some f) h (database_of h f)
    here x same = subst (λ y. Says h (database_of h f) y) (one f x same) (opened f refl, refl)
      where
        one : (f x : Files) → Some f ≡ Some x → f ≡ x
        one f x e = cc

-- all of them are the first of them
all_first : (ns : List (List ℕ)) (d c : Files) → c ≡ without ns d → FirstRemoved ns d c
all_first [] d c is = is
all_first (n ∷ ns) d c is = inr (all_first ns (with_file n None d) c is)

in_part : (h : Head) (n : ℕ) (d c : Files) → Tidied h n d c → LeftUntidy h d c
in_part h n d c whole = inr (record {
  names = whole.names;
  of = whole.of;
  first = all_first (filter (is_unused h) whole.names) d c (whole.files ∙ sym (all_removed h d whole.names whole.of));
})

told_in_part : (h : Head) (n : ℕ) (old new : Option Files) → Told (TidiesWhole h n) old new → Told (TidiesInPart h) old new
told_in_part h n None new told = told
told_in_part h n (Some f) new (g, now, (whole, says)) = (g, now, (in_part h n f g whole, says))

-- what the tidying of an opened database did to files that are told
module _ (disk : Disk) (middle : Option Files) (count : ℕ) (h : Head) (o : WasOpened disk middle count h)
    (says : (said : Database) → SaysWhereTold middle h said → SaysWhereTold disk.new h said) where
  from_start : (said : Database) → SaysWhereTold disk.old h said → SaysWhereTold disk.new h said
  from_start = subst (λ files. (said : Database) → SaysWhereTold files h said → SaysWhereTold disk.new h said) o.files says

  -- all of them are gone
  pub whole : (n : ℕ) → Told (Tidied h n) middle disk.new → Told (TidiesWhole h n) disk.old disk.new
  whole n told = saying (Tidied h n) h disk.old disk.new o.opened (subst (λ files. Told (Tidied h n) files disk.new) o.files told) from_start

  -- some first of them are gone, or all
  pub some_first : Told (LeftUntidy h) middle disk.new → IsTidiedInPart disk
  some_first told = record {
    head = h;
    opened = if_some disk.old (λ f. HaveHead f h) o.opened;
    tidied = saying (LeftUntidy h) h disk.old disk.new o.opened (subst (λ files. Told (LeftUntidy h) files disk.new) o.files told) from_start;
  }

  pub all_of_them : (n : ℕ) → Told (Tidied h n) middle disk.new → IsTidiedInPart disk
  all_of_them n told = record {
    head = h;
    opened = if_some disk.old (λ f. HaveHead f h) o.opened;
    tidied = told_in_part h n disk.old disk.new (whole n told);
  }

-- ---- why a tidying gives no text

pub tidy_stopped : (input : Stream) (disk : Disk) (count : ℕ) (fault : DbFault) (refusal : Refusal) → IsUntouched input → count ≡ disk.faults_before
    → IsTidyCause count disk.faults_after fault → IsOfDatabase fault refusal → IsCause Tidy input disk refusal
tidy_stopped input disk count faults.StoreFault refusal unread counted cause is = subst (λ r. IsCause Tidy input disk r) (sym is)
    (tt, unread.faults, record { later = subst (λ n. n ≤ disk.faults_after) counted cause.0; rose = subst (λ n. Rose n disk.faults_after) counted cause.1 })
tidy_stopped input disk count (faults.Bad file) refusal unread counted cause is = absurd cause
tidy_stopped input disk count (faults.Full what held added) refusal unread counted cause is = absurd cause
tidy_stopped input disk count faults.Memory refusal unread counted cause is = subst (λ r. IsCause Tidy input disk r) (sym is)
    (unread.faults, cause ∙ counted)

-- ---- a crash at any moment

-- What a crash leaves in the end, where at the start it left the present files alone.
abbrev pub Settles : {D : Type 0} → (D → Option Files) → (D → ℕ) → (D → ℕ → Files → Type 0) → D → D → Head → Type 0
Settles files moment left_since old new h = (f : Files) → files old ≡ Some f → ((c : Files) → LeftNow moment left_since old c → c ≡ f)
    → (c : Files) → LeftNow moment left_since new c → c ≡ without_unused h f

-- what a crash leaves of a tidying, over a database with this head
pub record Keeps {D : Type 0} (files : D → Option Files) (moment : D → ℕ) (left_since : D → ℕ → Files → Type 0) (old new : D) (h : Head) : Type 0 where
  pub steps : Passes moment left_since old new (AfterSome (LeftNow moment left_since old) (LosesUnused h))
  pub any_moment : (said : Database) → CrashesSay (LeftNow moment left_since old) h said → LeavesOnly moment left_since old new (Says h said)
  pub present : (said : Database) → CrashesSay (LeftNow moment left_since old) h said → (f : Files) → files new ≡ Some f → Says h said f

module _ {D : Type 0} (files : D → Option Files) (moment : D → ℕ) (left_since : D → ℕ → Files → Type 0) (old mid new : D) (h : Head)
    (one : OneHead) (opened : (f : Files) → files old ≡ Some f → HaveHead f h) (reads : ReadsOnly files moment left_since old mid)
    (keeps : Keeps files moment left_since mid new h) where
  -- a head under which the store tells its files is the one with which they were opened
  same_head : (k : Head) (f : Files) → TellsNow files moment left_since old k f → h ≡ k
  same_head k f tells = one f h k (opened f tells.told) tells.has_head

  -- so a crash before the first removal says it under that one
  said_before : (k : Head) (f : Files) → TellsNow files moment left_since old k f → CrashesSay (LeftNow moment left_since mid) h (database_of k f)
  said_before k f tells c here = subst (λ x. Says x (database_of k f) c) (sym (same_head k f tells)) (tells.crash c (reads.crash c here))

  settled_from : Settles files moment left_since mid new h → Settles files moment left_since old new h
  settled_from settles f told alone c here = settles f (reads.files ∙ told) (λ d was. alone d (reads.crash d was)) c here

  pub leaves : (status : ℕ) → ((status ≡ 0) ⊎ (status ≡ 5) → Settles files moment left_since mid new h)
      → LeavesDatabase files moment left_since old new status
  leaves status settles = record {
    head = h;
    opened = if_some (files old) (λ f. HaveHead f h) opened;
    steps = chain (AfterSome (LeftNow moment left_since old) (LosesUnused h))
        (λ c was. (c, was, λ name. inl refl))
        (λ c (d, was, loses). (d, reads.crash d was, loses))
        reads.time keeps.steps;
    any_moment = λ k f tells. subst (λ x. LeavesOnly moment left_since old new (Says x (database_of k f))) (same_head k f tells)
        (after_reads (Says h (database_of k f))
        (λ c here. subst (λ x. Says x (database_of k f) c) (sym (same_head k f tells)) (tells.crash c here))
        reads.time (keeps.any_moment (database_of k f) (said_before k f tells)));
    present = λ k f g tells now. subst (λ x. Says x (database_of k f) g) (same_head k f tells)
        (keeps.present (database_of k f) (said_before k f tells) g now);
    settled = λ done. settled_from (settles done);
  }

-- the status of a fault is that of no text
pub not_done : (fault : DbFault) (refusal : Refusal) → IsOfDatabase fault refusal → (status_of refusal ≡ 0) ⊎ (status_of refusal ≡ 5) → ⊥
not_done fault refusal is done = let none : Some fault ≡ None = (status_is fault refusal is).all done in absurd (cc)

-- a tidying whose number was not written
pub unwritten_number : {D : Type 0} (files : D → Option Files) (moment : D → ℕ) (left_since : D → ℕ → Files → Type 0) (old new : D)
    → LeavesDatabase files moment left_since old new 0 → LeavesDatabase files moment left_since old new 5
unwritten_number files moment left_since old new leaves = record {
  head = leaves.head;
  opened = leaves.opened;
  steps = leaves.steps;
  any_moment = leaves.any_moment;
  present = leaves.present;
  settled = λ done. leaves.settled (inl refl);
}
