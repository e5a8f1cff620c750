-- Lists of calls: document 01, "A reading", second paragraph.
use Rattle.std.specs.Prelude.{◌≡◌, List, [], ◌∷◌, Result, Ok, Err}
use Rattle.sdtd.specs.Schema.{Schema}
use Rattle.sdtd.specs.Answer.{Answer, refused, typed, taken, question_number}
use Rattle.sdtd.specs.Document.{Event}
use Rattle.sdtd.specs.Calls.{Exchange}
use Rattle.sdtd.specs.declared.Refused.{Refused}
use Rattle.sdtd.specs.declared.TypeNo.{TypeNo}
use Rattle.reading.specs.declared.value.Reading.{Reading}
use Rattle.reading.specs.Questions.{Next, gives, CallMeans}

-- document 01's answer for the code's: "Opening (tag) answers the type; closing (tag) and finish answer taken."
abbrev pub typed_of : Result TypeNo Refused → Answer
typed_of (Ok j) = typed j.0
typed_of (Err why) = refused (question_number why)

abbrev pub taken_of : {A : Type 0} → Result A Refused → Answer
taken_of (Ok x) = taken
taken_of (Err why) = refused (question_number why)

-- How a call is made: by value, which hands back the answer with the reading that follows; or on a lent reading, which it moves on.
pub data CallForm : Type 0 where
  by_value : CallForm
  lent : CallForm

-- What the call promises of its answer and of the reading handed back, or left behind the reference.
abbrev pub Promises : CallForm → Schema → Reading → Event → Answer → Reading → Type 0
Promises by_value S r x a after = (n : Next) × CallMeans S r x n × (n ≡ gives a after)
Promises lent S r x a after = CallMeans S r x (gives a after)

-- "Every call of the list is given the accepted schema and the reading as the call before it left it"; "Lent calls, once there are any, may
-- stand in the list too." From the reading r on, each call of the list answers and leaves what its promise says.
abbrev pub Called : Schema → Reading → List Exchange → Type 0
Called S r [] = Unit
Called S r (x ∷ xs) = (form : CallForm) × (after : Reading) × Promises form S r x.call x.answer after × Called S after xs
