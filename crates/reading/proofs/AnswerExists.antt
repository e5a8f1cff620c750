-- A call has an answer and a reading by its promise, for any schema and any reading; and no other.
use Rattle.sdtd.specs.Answer.{typed, taken}
use mathlib.Core.Path.{◌≡◌, refl, ap}
use mathlib.Core.List.{List, [], ◌∷◌}
use Prim.Native.Nat.{ℕ, pred, ◌<◌}
use native.Mathlib.Nat.{le_refl, le_trans}
use native.Mathlib.Omega.{arith}
use Rattle.sdtd.specs.Limits.{most_states, most_levels}
use Rattle.sdtd.specs.Schema.{Schema, tag_of}
use Rattle.sdtd.specs.Tree.{Kind}
use Rattle.sdtd.specs.Document.{Event, opening, closing, finish}
use Rattle.sdtd.specs.Calls.{Exchange, calls}
use Rattle.sdtd.proofs.Answers.{Decided, ordered_exists}
use Rattle.sdtd.proofs.Tests.{decided, to_dec, eq_means, lt_means, false_means}
use Rattle.sdtd.proofs.Smallest.{smallest_of}
use Rattle.sdtd.proofs.Within.{block_within}
use Rattle.reading.specs.declared.value.Reading.{Reading}
use Rattle.reading.specs.Levels.{inner_type, Within}
use Rattle.reading.specs.Questions.{gives, LeadsTo, CanOpen, opened, closed, after_finish, OpeningTaken, questions, TakenBy, CallMeans, Next}
use Rattle.reading.specs.Calls.{by_value, Called}
use Rattle.reading.proofs.StateSets.{decided_set}
use Rattle.reading.proofs.Decisions.{within_decided, leads_decided, open_decided, some_open_decided, complete_decided, over_decided}
use Rattle.reading.proofs.OneAnswer.{call_unique}

-- inside the limits a step of an open element leads to a state below `most_states`
led_below : {S : Schema} {r : Reading} {j q : ℕ} → Within S r → 0 < r.depth → LeadsTo S r j q → q < most_states
led_below {S} {r} w l x =
    let b = block_within w.schema (w.reading.levels (pred r.depth) (omega arith)).type in
    le_trans (b.steps _ x.step).to b.states_most

-- an opening that is taken: the smallest type, and the states that it leads to
opening_taken : (S : Schema) (r : Reading) (κ : Kind) (g : ℕ) → Within S r → (j : ℕ) × CanOpen S r κ g j → (n : Next) × OpeningTaken S r κ g n
opening_taken S r κ g w o =
    let s = smallest_of (λ j. decided (open_decided S r κ g j).1) o.0 o.1 in
    let k = decided_set (λ q. (leads_decided S r s.number q).1) most_states (le_refl most_states) in (
      gives (typed s.number) (opened κ r s.number k.set),
      record {
        type = s.number;
        can_open = s.holds;
        smallest = s.smallest;
        kept = k.set;
        kept_below = k.small;
        keeps = λ l q. (λ t. ((k.states q).0 t).1, λ x. (k.states q).1 (led_below w l x, x));
        next = refl;
      },
    )

-- each question of a call is decided, and where all of them hold there is an answer
call_decided : (S : Schema) (r : Reading) (x : Event) → Decided (questions S r x) (TakenBy S r x)
call_decided S r (opening κ g) = (
  to_dec (within_decided S r).1,
  λ w. (
    to_dec (false_means r.finished),
    λ f. (
      to_dec (lt_means g S.tags),
      λ t. (to_dec (some_open_decided S r κ g).1, λ o. (to_dec (lt_means r.depth most_levels), λ d. opening_taken S r κ g w o)),
    ),
  ),
)
call_decided S r (closing g) = (
  to_dec (within_decided S r).1,
  λ w. (
    to_dec (false_means r.finished),
    λ f. (
      to_dec (lt_means g S.tags),
      λ t. (
        to_dec (lt_means 0 r.depth),
        λ d. (
          to_dec (eq_means (tag_of S (inner_type r)) g),
          λ e. (to_dec (complete_decided S r).1, λ k. (gives taken (closed r), refl)),
        ),
      ),
    ),
  ),
)
call_decided S r finish = (
  to_dec (within_decided S r).1,
  λ w. (to_dec (false_means r.finished), λ f. (to_dec (over_decided r).1, λ k. (gives taken (after_finish r), refl))),
)

pub call_exists : (S : Schema) (r : Reading) (x : Event) → (n : Next) × CallMeans S r x n
call_exists S r x = ordered_exists (TakenBy S r x) (questions S r x) (call_decided S r x)

-- Every call has exactly one answer by the ordered questions, and hands back exactly one reading.
pub one_answer : (S : Schema) (r : Reading) (x : Event) → (n : Next) × CallMeans S r x n × ((m : Next) → CallMeans S r x m → n ≡ m)
one_answer S r x = let a = call_exists S r x in (a.0, a.1, λ m s. call_unique S r x a.1 s)

-- Every list of events can be called, from any reading: some answers and readings are what the calls promise.
pub called_exists : (S : Schema) (r : Reading) (es : List Event) → (xs : List Exchange) × (calls xs ≡ es) × Called S r xs
called_exists S r [] = ([], refl, tt)
called_exists S r (e ∷ es) =
    let n = call_exists S r e in
    let later = called_exists S n.0.reading es in
    (record { call = e; answer = n.0.answer } ∷ later.0, ap (λ (l : List Event). e ∷ l) later.1, (by_value, n.0.reading, (n.0, n.1, refl), later.2))
