-- Lists of calls from a fresh reading, under an accepted schema: every answer is right, so demand 3's list statement and demand 2's hold.
use mathlib.Core.Path.{subst}
use mathlib.Core.List.{List, [], ◌∷◌}
use Rattle.sdtd.specs.Schema.{Schema}
use Rattle.sdtd.specs.Document.{Event}
use Rattle.sdtd.specs.Competition.{Accepted}
use Rattle.sdtd.specs.Answer.{Answer}
use Rattle.sdtd.specs.Calls.{Exchange, RightCalls, ListMeets, WholeMeets}
use Rattle.sdtd.proofs.Calls.{Each, RightAt, places_of_each, calls_meet, calls_meet_whole}
use Rattle.sdtd.proofs.Within.{within_tags}
use Rattle.reading.specs.declared.value.Reading.{Reading}
use Rattle.reading.specs.Levels.{fresh}
use Rattle.reading.specs.Questions.{gives, CallMeans}
use Rattle.reading.specs.Calls.{CallForm, by_value, lent, Promises, Called}
use Rattle.reading.proofs.Keeping.{After, fresh_after}
use Rattle.reading.proofs.CallAnswers.{call_answered}

-- both forms of a call promise the same
promised : (S : Schema) (form : CallForm) (r : Reading) (x : Event) (a : Answer) (after : Reading) → Promises form S r x a after
    → CallMeans S r x (gives a after)
promised S by_value r x a after p = subst (CallMeans S r x) p.2 p.1
promised S lent r x a after p = p

-- from the reading after e on, each call's answer is right for the events taken before it
each_right : {S : Schema} → Accepted S → {e : List Event} {r : Reading} → After S e r → (xs : List Exchange) → Called S r xs
    → Each (RightAt S) e xs
each_right accepted k [] c = tt
each_right {S} accepted {e} {r} k (x ∷ xs) (form, after, p, c) =
    let a = call_answered accepted k x.call (promised S form r x.call x.answer after p) in (a.right, each_right accepted a.next xs c)

module _ {S : Schema} (accepted : Accepted S) (xs : List Exchange) (called : Called S fresh xs) where
  -- every answer of the list is right for the events taken before its call
  pub right_calls : RightCalls S xs
  right_calls = places_of_each (RightAt S) [] xs (each_right accepted (fresh_after accepted) xs called)

  -- demand 3 of the list
  pub list_meets : ListMeets S xs
  list_meets = calls_meet accepted.no_competition (within_tags accepted.within) xs right_calls

  -- demand 2 of the list
  pub whole_meets : WholeMeets S xs
  whole_meets = calls_meet_whole accepted.no_competition (within_tags accepted.within) xs right_calls
