-- Calls are the list of their strings, so the third demand holds of every list of calls.
use Prim.Native.Nat.{ℕ}
use mathlib.Core.Path.{◌≡◌, refl, sym, ap, subst, ◌∙◌}
use mathlib.Core.List.{List, [], ◌∷◌, ◌++◌, append-nil, flat_map}
use lib.ListN.{length, drop}
use Rattle.sha256.specs.Digest.{sha256}
use Rattle.machine.specs.Real.{lms_verdict}
use Rattle.machine.specs.Opening.{opening}
use Rattle.ledger.specs.Ledger.{strings, Standing, recorded, after, Accounted}
use Rattle.machine.specs.Machine.{step}
use Rattle.ledger.proofs.ThirdDemand.{third_demand_met}
use Rattle.journal.specs.declared.lines.Line.{Line}
use Rattle.journal.specs.Runs.{run_of}
use Rattle.journal.specs.Divided.{divided}
use Rattle.journal.specs.Calls.{Call, called, calls, given, CallsMean, JournalDemand}
use Rattle.journal.proofs.Journals.{run_means, more_commands}

-- The real machine, from a standing.
abbrev listed : Standing → List (List ℕ) → Standing
listed t l = after lms_verdict sha256 t l

listed_append : (t : Standing) (l m : List (List ℕ)) → listed t (l ++ m) ≡ listed (listed t l) m
unfolding after
listed_append t [] m = refl
listed_append t (s ∷ l) m = listed_append (recorded t s (step lms_verdict sha256 t.book s)) l m

one_call : (t : Standing) (c : Call) → called t c ≡ listed t (given c)
unfolding called given after
one_call t (Call.apply s) = refl
one_call t (Call.run cs ls) = sym (run_means t.book t.history cs ls).list

all_calls : (t : Standing) (l : List Call) → calls t l ≡ listed t (flat_map given l)
unfolding after flat_map
all_calls t [] = refl
all_calls t (c ∷ l) = all_calls (called t c) l ∙ ap (λ (u : Standing). listed u (flat_map given l)) (one_call t c) ∙ sym (listed_append t (given c) (flat_map given l))

again : (t : Standing) (cs : List ℕ) (ls ms : List Line) → let d = run_of t.book cs ls in d.cause ≡ 13 → calls t (Call.run cs ls ∷ Call.run (drop d.used cs) ms ∷ []) ≡ called t (Call.run cs (ls ++ ms))
unfolding given flat_map
again t cs ls ms e =
    let d = run_of t.book cs ls in
    all_calls t (Call.run cs ls ∷ Call.run (drop d.used cs) ms ∷ [])
    ∙ ap (listed t) (ap (λ (l : List (List ℕ)). divided (length ls) cs ++ l) (append-nil (divided (length ms) (drop d.used cs))) ∙ sym (more_commands ms t.book cs ls e))
    ∙ sym (one_call t (Call.run cs (ls ++ ms)))

pub calls_mean : (t : Standing) → CallsMean t
calls_mean t = record { list = all_calls t; again = again t }

pub journal_demand : JournalDemand
journal_demand lent o ok l n h =
    let t : Standing = record { book = (opening lent o).book; history = [] } in
    subst (λ (t : Standing). Accounted lms_verdict sha256 o t.book t.history n (strings n t.history)) (sym (all_calls t l)) (third_demand_met lent o ok (flat_map given l) n h)
