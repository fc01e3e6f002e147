-- A worker that has come to its end has listed the stages for the last time, and the queue before.
use Rattle.std.specs.Prelude.{◌≡◌, ◌⊎◌, ◌≤◌, ℕ, Bool, true, false, List, [], ◌∷◌, refl}
use Rattle.std.proofs.Common.{arith, inl, inr, ap, sym, subst, ◌∙◌}
use Rattle.ig_defs.specs.declared.step.Act.{Act}
use Rattle.ig_defs.specs.Files.{Files}
use Rattle.ig_defs.specs.Log.{Log}
use Rattle.ig_defs.specs.TurnLaws.{prefix_itself, prefix_of, prefix_then}
use Rattle.ig_defs.specs.Turns.{IsPrefix}
use Rattle.ig_worker.specs.declared.notes.Notes.{Notes}
use Rattle.ig_worker.specs.declared.phase.Phase.{Phase}
use Rattle.ig_worker.specs.declared.phase.Phase.TheVariants.{Asking, Closing}
use Rattle.ig_worker.specs.Course.{Course}
use Rattle.ig_worker.specs.Ending.Sorts.{leads_ending, leads_round, not_both}
use Rattle.ig_worker.specs.Ending.LastTimes.{AreAll, LastAt, LastListing, LastRound, is_ending, is_round}
use Rattle.ig_worker.specs.Moves.{Leads, Move}
use Rattle.ig_worker.specs.Places.{State}

-- The clock doesn't run back along a course.
pub course_later : (allows : Bool → Files → Act → Type 0) (from : ℕ) (s : State) (old : Log) (ms : List Move) (to : ℕ) (next : State) (new : Log) → Course allows from s old ms to next new → from ≤ to
course_later allows from s old [] to next new c = c.0
course_later allows from s old (m ∷ ms) to next new c =
    let later = course_later allows c.0 m.next c.1 ms to next new c.4 in
    let first = c.2 in
    omega (arith, later, first)

-- the log where it began is a prefix of the log where it ends
pub course_prefix : (allows : Bool → Files → Act → Type 0) (from : ℕ) (s : State) (old : Log) (ms : List Move) (to : ℕ) (next : State) (new : Log) → Course allows from s old ms to next new → IsPrefix old new
course_prefix allows from s old [] to next new c = subst (IsPrefix old) (sym c.2) (prefix_itself old)
course_prefix allows from s old (m ∷ ms) to next new c = prefix_then (prefix_of c.3.answered.acted) (course_prefix allows c.0 m.next c.1 ms to next new c.4)

pub all_first : (P : Phase → Bool) (s : State) (ms : List Move) → AreAll P s ms → P s.phase ≡ true
all_first P s [] all = all
all_first P s (m ∷ ms) all = all.0

-- a sort of places to which only the gate leads
abbrev IsBehind : (Phase → Bool) → Phase → Type 0
IsBehind P gate = (from to : ℕ) (notes : Notes) (phase : Phase) (m : Move) → Leads from to notes phase m → P m.next.phase ≡ true → (phase ≡ gate) ⊎ (P phase ≡ true)

module _ (P : Phase → Bool) (gate : Phase) (behind : IsBehind P gate) (allows : Bool → Files → Act → Type 0) (to : ℕ) (next : State) (new : Log) (ends : P next.phase ≡ true) where
  -- a worker that has come there was there all the while, or has passed the gate
  gate_or_there : (from : ℕ) (s : State) (old : Log) (ms : List Move) → Course allows from s old ms to next new → LastAt P gate allows from s old ms to next new ⊎ AreAll P s ms
  gate_or_there from s old [] c = inr (ap (λ (t : State). P t.phase) (sym c.1) ∙ ends)
  gate_or_there from s old (m ∷ ms) c = by_rest (gate_or_there c.0 m.next c.1 ms c.4)
    where
      at_gate : AreAll P m.next ms → (s.phase ≡ gate) ⊎ (P s.phase ≡ true) → LastAt P gate allows from s old (m ∷ ms) to next new ⊎ AreAll P s (m ∷ ms)
      at_gate all (inl there) =
          inl (record { first = []; move = m; rest = ms; together = refl; between = from; place = s; mid = old; before = (omega arith, refl, refl); there = there; later = c; since = all })
      at_gate all (inr here) = inr (here, all)

      by_rest : LastAt P gate allows c.0 m.next c.1 ms to next new ⊎ AreAll P m.next ms → LastAt P gate allows from s old (m ∷ ms) to next new ⊎ AreAll P s (m ∷ ms)
      by_rest (inl l) = inl (record {
        first = m ∷ l.first;
        move = l.move;
        rest = l.rest;
        together = ap (λ rest. m ∷ rest) l.together;
        between = l.between;
        place = l.place;
        mid = l.mid;
        before = (c.0, c.1, c.2, c.3, l.before);
        there = l.there;
        later = l.later;
        since = l.since;
      })
      by_rest (inr all) = at_gate all (behind from c.0 s.notes s.phase m c.3.leads (all_first P m.next ms all))

  -- one that hadn't come there before has passed it
  last_at : (from : ℕ) (s : State) (old : Log) (ms : List Move) → Course allows from s old ms to next new → P s.phase ≡ false → LastAt P gate allows from s old ms to next new
  last_at from s old ms c starts = by_place (gate_or_there from s old ms c)
    where
      by_place : LastAt P gate allows from s old ms to next new ⊎ AreAll P s ms → LastAt P gate allows from s old ms to next new
      by_place (inl l) = l
      by_place (inr all) = not_both (P s.phase) (all_first P s ms all) starts

-- A worker that has come to the end has listed the stages at the close,
pub last_listing : (allows : Bool → Files → Act → Type 0) (from : ℕ) (s : State) (old : Log) (ms : List Move) (to : ℕ) (next : State) (new : Log) → Course allows from s old ms to next new → is_ending s.phase ≡ false
    → is_ending next.phase ≡ true → LastListing allows from s old ms to next new
last_listing allows from s old ms to next new c starts ends = last_at is_ending Closing leads_ending allows to next new ends from s old ms c starts

-- and one that has come to the close has listed the queue.
pub last_round : (allows : Bool → Files → Act → Type 0) (from : ℕ) (s : State) (old : Log) (ms : List Move) (to : ℕ) (next : State) (new : Log) → Course allows from s old ms to next new → is_round s.phase ≡ false
    → is_round next.phase ≡ true → LastRound allows from s old ms to next new
last_round allows from s old ms to next new c starts ends = last_at is_round Asking leads_round allows to next new ends from s old ms c starts
