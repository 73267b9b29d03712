-- The sides fit the daemon still, after their bells were rung.
use Rattle.std.proofs.Common.{arith, ◌≡◌, ℕ, zero, suc, ◌+◌, ◌<◌, refl, sym, ◌∙◌, ap, subst, Bool, true, false, if◌then◌else◌, List, [], ◌∷◌, ◌++◌, length, map, take, append-nil, append_assoc, add-one, Option, Some, None}
use Rattle.std.specs.Prelude.{slice_get}
use Rattle.std.proofs.lemmas.List.{length-take}
use Rattle.sample_key.specs.declared.losses.Pace.{Pace}
use Rattle.trace_model.specs.Streams.{records_in, stream_of}
use Rattle.trace_model.specs.declared.notices.Record.{Record}
use Rattle.lane_side.specs.Plain.{Plain}
use Rattle.run_model.specs.Daemon.{Advancing, Daemon, ask, begin, flush_before, go_on, in_force, move, needs_flush, rungs_before, rungs_of, settle}
use Rattle.run_model.specs.Books.{AsksInNeed}
use Rattle.run_model.specs.declared.advances.Advanced.{Advanced}
use Rattle.run_model.specs.declared.advances.Advanced.TheVariants.{Finished, Waiting}
use Rattle.dcpid_core.specs.Flushes.{first_incomplete}
use Rattle.dcpid_core.specs.Counting.{SidesFitOn}
use Rattle.dcpid_core.specs.Collection.{Collection, FitFrom, rang, rang_if}

-- what is rung for one record
abbrev bells : Pace → ℕ → Record → List ℕ
bells pace number notice = if needs_flush pace notice then flush_before number ∷ in_force (number + 1) ∷ [] else in_force (number + 1) ∷ []

before_more : (pace : Pace) (number : ℕ) (records : List Record) (notice : Record) → rungs_before pace number (records ++ notice ∷ []) ≡ rungs_before pace number records ++ bells pace (number + length records) notice
before_more pace number [] notice = append-nil (bells pace number notice) ∙ ap (λ n. bells pace n notice) (omega arith)
before_more pace number (x ∷ xs) notice =
    ap (λ ys. bells pace number x ++ ys) (before_more pace (number + 1) xs notice)
    ∙ sym (append_assoc (bells pace number x) (rungs_before pace (number + 1) xs) (bells pace (number + 1 + length xs) notice))
    ∙ ap (λ n. (bells pace number x ++ rungs_before pace (number + 1) xs) ++ bells pace n notice) (omega arith)

-- the first records and the next one
pub take_next : (records : List Record) (applied : ℕ) (notice : Record) → slice_get records applied ≡ Some notice → (take (suc applied) records ≡ take applied records ++ notice ∷ []) × (applied < length records)
take_next [] applied notice is = absurd (cc)
take_next (x ∷ xs) zero notice is = (ap (λ y. y ∷ []) (one_record x notice is), omega arith)
  where
    one_record : (x y : Record) → Some x ≡ Some y → x ≡ y
    one_record x y e = cc
take_next (x ∷ xs) (suc applied) notice is = let rest = take_next xs applied notice is in (ap (λ ys. x ∷ ys) rest.0, omega (arith, rest.1))

-- a flush was asked for
pub rungs_asked : (pace : Pace) (records : List Record) (before after : Daemon) → before.asking ≡ false → after.asking ≡ true → after.applied ≡ before.applied → rungs_of pace records after ≡ rungs_of pace records before ++ flush_before before.applied ∷ []
rungs_asked pace records before after was is same =
    ap (λ (t : Bool). rungs_before pace 0 (take after.applied records) ++ (if t then flush_before after.applied ∷ [] else [])) is
    ∙ ap (λ n. rungs_before pace 0 (take n records) ++ flush_before n ∷ []) same
    ∙ ap (λ xs. xs ++ flush_before before.applied ∷ []) (sym (append-nil (rungs_before pace 0 (take before.applied records))))
    ∙ ap (λ (t : Bool). (rungs_before pace 0 (take before.applied records) ++ (if t then flush_before before.applied ∷ [] else [])) ++ flush_before before.applied ∷ []) (sym was)

-- a record was put in force
pub rungs_moved : (pace : Pace) (records : List Record) (before after : Daemon) (notice : Record) → slice_get records before.applied ≡ Some notice → before.asking ≡ needs_flush pace notice → after.asking ≡ false → after.applied ≡ before.applied + 1 → rungs_of pace records after ≡ rungs_of pace records before ++ in_force (before.applied + 1) ∷ []
rungs_moved pace records before after notice here needs is later =
    let next = take_next records before.applied notice here in
    ap (λ (t : Bool). rungs_before pace 0 (take after.applied records) ++ (if t then flush_before after.applied ∷ [] else [])) is
    ∙ append-nil (rungs_before pace 0 (take after.applied records))
    ∙ ap (λ n. rungs_before pace 0 (take n records)) (later ∙ add-one before.applied)
    ∙ ap (λ xs. rungs_before pace 0 xs) next.0
    ∙ before_more pace 0 (take before.applied records) notice
    ∙ ap (λ n. rungs_before pace 0 (take before.applied records) ++ bells pace n notice) (omega (arith, length-take before.applied records, next.1))
    ∙ by (needs_flush pace notice)
    ∙ ap (λ (t : Bool). (rungs_before pace 0 (take before.applied records) ++ (if t then flush_before before.applied ∷ [] else [])) ++ in_force (before.applied + 1) ∷ []) (sym needs)
  where
    by : (t : Bool) → rungs_before pace 0 (take before.applied records) ++ (if t then flush_before before.applied ∷ in_force (before.applied + 1) ∷ [] else in_force (before.applied + 1) ∷ [])
        ≡ (rungs_before pace 0 (take before.applied records) ++ (if t then flush_before before.applied ∷ [] else [])) ++ in_force (before.applied + 1) ∷ []
    by true = sym (append_assoc (rungs_before pace 0 (take before.applied records)) (flush_before before.applied ∷ []) (in_force (before.applied + 1) ∷ []))
    by false = ap (λ xs. xs ++ in_force (before.applied + 1) ∷ []) (sym (append-nil (rungs_before pace 0 (take before.applied records))))

-- the sides fit, once they were rung with this value
pub fit_rang : (before after : Collection) (number value : ℕ) (sides : List Plain) → after.trace ≡ before.trace → rungs_of after.pace (records_in after.trace) after.state ≡ rungs_of before.pace (records_in before.trace) before.state ++ value ∷ [] → FitFrom before number sides → FitFrom after number (map (rang value) sides)
fit_rang before after number value [] trace rungs fit = tt
fit_rang before after number value (side ∷ sides) trace rungs fit = (
  record {
    cpu = fit.0.cpu;
    samples = fit.0.samples ∙ ap (λ t. stream_of number t) (sym trace);
    first = fit.0.first;
    second = fit.0.second;
    third = fit.0.third;
    rungs = ap (λ xs. xs ++ value ∷ []) fit.0.rungs ∙ sym rungs;
  },
  fit_rang before after (number + 1) value sides trace rungs fit.1,
)

-- or where no bell is rung
pub fit_same : (before after : Collection) (number : ℕ) (sides : List Plain) → after.trace ≡ before.trace → rungs_of after.pace (records_in after.trace) after.state ≡ rungs_of before.pace (records_in before.trace) before.state → FitFrom before number sides → FitFrom after number sides
fit_same before after number [] trace rungs fit = tt
fit_same before after number (side ∷ sides) trace rungs fit = (
  record {
    cpu = fit.0.cpu;
    samples = fit.0.samples ∙ ap (λ t. stream_of number t) (sym trace);
    first = fit.0.first;
    second = fit.0.second;
    third = fit.0.third;
    rungs = fit.0.rungs ∙ sym rungs;
  },
  fit_same before after (number + 1) sides trace rungs fit.1,
)

-- ---- after an advance

-- what the daemon does keeps the sides fitting
abbrev FitsAfter : Collection → Collection → List Plain → Advancing → Type 0
FitsAfter daemon new sides done = new.state.applied ≡ done.daemon.applied → new.state.asking ≡ done.daemon.asking → FitFrom new 0 (rang_if done.ring sides)

-- what was rung is the same for the same run
same_run : (daemon new : Collection) → new.trace ≡ daemon.trace → new.pace ≡ daemon.pace → rungs_of new.pace (records_in new.trace) new.state ≡ rungs_of daemon.pace (records_in daemon.trace) new.state
same_run daemon new trace pace = λ k. rungs_of (pace k) (records_in (trace k)) new.state

stays_fit : (daemon new : Collection) (sides : List Plain) (state : Daemon) (answer : Advanced) → new.trace ≡ daemon.trace → new.pace ≡ daemon.pace → FitFrom daemon 0 sides → state.applied ≡ daemon.state.applied → state.asking ≡ daemon.state.asking → FitsAfter daemon new sides (record { answer = answer; daemon = state; ring = None })
stays_fit daemon new sides state answer trace pace fit at asks = λ applied asking.
    fit_same daemon new 0 sides trace (same_run daemon new trace pace ∙ (λ k. rungs_before daemon.pace 0 (take ((applied ∙ at) k) (records_in daemon.trace)) ++ (if (asking ∙ asks) k then flush_before ((applied ∙ at) k) ∷ [] else []))) fit

asked_fit : (daemon new : Collection) (sides : List Plain) → new.trace ≡ daemon.trace → new.pace ≡ daemon.pace → FitFrom daemon 0 sides → daemon.state.asking ≡ false → FitsAfter daemon new sides (ask daemon.state)
asked_fit daemon new sides trace pace fit was = λ applied asking.
    fit_rang daemon new 0 (flush_before daemon.state.applied) sides trace (same_run daemon new trace pace ∙ rungs_asked daemon.pace (records_in daemon.trace) daemon.state new.state was asking applied) fit

moved_fit : (daemon new : Collection) (sides : List Plain) (notice : Record) → new.trace ≡ daemon.trace → new.pace ≡ daemon.pace → FitFrom daemon 0 sides → slice_get (records_in daemon.trace) daemon.state.applied ≡ Some notice → daemon.state.asking ≡ needs_flush daemon.pace notice → FitsAfter daemon new sides (move daemon.state notice)
moved_fit daemon new sides notice trace pace fit there needs = λ applied asking.
    fit_rang daemon new 0 (in_force (daemon.state.applied + 1)) sides trace (same_run daemon new trace pace ∙ rungs_moved daemon.pace (records_in daemon.trace) daemon.state new.state notice there needs asking applied) fit

pub fit_on : SidesFitOn
fit_on daemon new sides stands trace pace applied asking fit = by_asking daemon.state.asking refl applied asking
  where
    settled : (o : Option Record) → slice_get (records_in daemon.trace) daemon.state.applied ≡ o → daemon.state.asking ≡ true → FitsAfter daemon new sides (settle daemon.state o)
    settled None there asks = stays_fit daemon new sides (record daemon.state { finished = true }) Finished trace pace fit refl refl
    settled (Some notice) there asks = moved_fit daemon new sides notice trace pace fit there (asks ∙ sym (subst (λ o. AsksInNeed daemon.pace o) there (stands.need asks)))

    gone_on : (o : Option ℕ) → daemon.state.asking ≡ true → FitsAfter daemon new sides (go_on (records_in daemon.trace) daemon.state o)
    gone_on None asks = settled (slice_get (records_in daemon.trace) daemon.state.applied) refl asks
    gone_on (Some cpu) asks = stays_fit daemon new sides daemon.state (Waiting cpu) trace pace fit refl refl

    begun_at : (t : Bool) (notice : Record) → slice_get (records_in daemon.trace) daemon.state.applied ≡ Some notice → needs_flush daemon.pace notice ≡ t → daemon.state.asking ≡ false → FitsAfter daemon new sides (if t then ask daemon.state else move daemon.state notice)
    begun_at true notice there needs asks = asked_fit daemon new sides trace pace fit asks
    begun_at false notice there needs asks = moved_fit daemon new sides notice trace pace fit there (asks ∙ sym needs)

    begun : (o : Option Record) → slice_get (records_in daemon.trace) daemon.state.applied ≡ o → daemon.state.asking ≡ false → FitsAfter daemon new sides (begin daemon.pace daemon.state o)
    begun None there asks = asked_fit daemon new sides trace pace fit asks
    begun (Some notice) there asks = begun_at (needs_flush daemon.pace notice) notice there refl asks

    by_asking : (t : Bool) → daemon.state.asking ≡ t → FitsAfter daemon new sides (if t then go_on (records_in daemon.trace) daemon.state (first_incomplete (flush_before daemon.state.applied) 0 daemon.flushes) else begin daemon.pace daemon.state (slice_get (records_in daemon.trace) daemon.state.applied))
    by_asking true asks = gone_on (first_incomplete (flush_before daemon.state.applied) 0 daemon.flushes) asks
    by_asking false asks = begun (slice_get (records_in daemon.trace) daemon.state.applied) refl asks
