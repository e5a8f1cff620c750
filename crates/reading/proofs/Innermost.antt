-- What the promise asks of the innermost level, by the type of its element and its children so far.
use mathlib.Core.Path.{◌≡◌, refl, sym, subst, ◌∙◌}
use mathlib.Core.Logic.Iff
use mathlib.Core.Logic.{◌↔◌, ◌≢◌, inl, inr, ⊎_elim}
use mathlib.Core.Bool.{false, true≢false}
use mathlib.Core.List.{List, [], ◌∷◌, ◌++◌, append_assoc, nil≢cons, Memᴰ}
use Prim.Native.Nat.{ℕ, suc, ◌<◌}
use native.Mathlib.Omega.{arith}
use lib.Dec.{T}
use lib.ListN.{get_or}
use Rattle.sdtd.specs.Schema.{Block, Schema, block_of, tag_of, Nillable, Leads, stay, go, Word}
use Rattle.sdtd.specs.Tree.{Kind, plain, nil, labels, ValidContent}
use Rattle.sdtd.specs.Document.{Event}
use Rattle.sdtd.specs.Trim.{Bears, AllBear, Live}
use Rattle.sdtd.proofs.Basics.{not_false-true}
use Rattle.sdtd.proofs.Automata.{leads_append, leads_split, accepts_after, accepts_split}
use Rattle.sdtd.proofs.Bearing.{by_bears, forest_bears}
use Rattle.sdtd.proofs.Fixpoint.{live_closed, bears_live}
use Rattle.sdtd.proofs.Machine.{Owner, top, own, OneRoot, Frame, frame, Suspended, inner}
use Rattle.sdtd.proofs.Follow.{Candidate, no_candidate, Grown, grown}
use Rattle.sdtd.proofs.Position.{Position}
use Rattle.sdtd.proofs.Next.{candidate_inside, candidate_outside}
use Rattle.sdtd.proofs.Questions.{nil_content, root_child}
use Rattle.schema.specs.States.{member, no_states}
use Rattle.schema.proofs.Bits.{member_none}
use Rattle.reading.specs.declared.value.Reading.{Reading}
use Rattle.reading.specs.Levels.{inner_type, inner_set}
use Rattle.reading.specs.Questions.{LeadsTo, CanOpen, Ends, Complete, RootOver}
use Rattle.reading.proofs.Keeping.{Level, Levels, outermost, level, OwnerKeeps}

last_step : {b : Block} {p j q : ℕ} → Leads b p (j ∷ []) q → Memᴰ (record { from = p; by = j; to = q }) b.steps
last_step (go s stay) = s

-- The questions of an innermost element that was opened plainly, by its type a and its children w.
module _ {S : Schema} {r : Reading} {a : ℕ} {w : List ℕ} (v : Level S (inner_type r) (inner_set r) plain a w) where
  -- the states kept after one child more
  leads_to : {j q : ℕ} → Bears S j → LeadsTo S r j q ↔ (Leads (block_of S a) 0 (w ++ (j ∷ [])) q × Live S a q)
  leads_to {j} {q} b = (
    λ x.
        let step = rw v.same_type at x.step in
        (leads_append ((v.states x.from).0 x.kept).0 (go step stay), rw v.same_type at x.live),
    λ h.
        let m = leads_split w h.0 in
        let s = last_step m.back in
        let live = live_closed.step a (record { from = m.middle; by = j; to = q }) s (bears_live.0 b) h.1 in
        record {
          from = m.middle;
          kept = (v.states m.middle).1 (m.front, live);
          step = rw v.same_type s;
          live = rw v.same_type h.1;
        },
  )

  -- 13
  can_open_inside : {κ : Kind} {g j : ℕ} → 0 < r.depth → AllBear S w → CanOpen S r κ g j ↔ ((tag_of S j ≡ g) × Candidate S (own plain a) w κ j)
  can_open_inside {κ} {g} {j} inside bear = (
    λ c.
        let h = (leads_to (by_bears κ c.bears)).0 (c.some_open inside).1 in
        let word : Word (block_of S a) (w ++ (j ∷ h.1.word)) = rw append_assoc at (accepts_after h.0 h.1.accepts) in
        (c.tag, record { rest = h.1.word; fills = word; bears = c.bears; bear = h.1.bear }),
    λ c.
        let (b, p) = (candidate_inside bear).0 c.1 in
        record {
          bears = b;
          tag = c.0;
          some_open = λ l. (p.to, (leads_to p.by_bearing).1 (leads_append p.leads (go p.step stay), p.to_live));
          none_open = λ z. absurd (omega arith);
        },
  )

  -- 17
  ends_word : Ends S r ↔ Word (block_of S a) w
  ends_word = (
    λ x.
        let accepting = rw v.same_type at x.accepting in
        record { last = x.state; leads = ((v.states x.state).0 x.kept).0; accepting = accepting },
    λ x.
        record {
          state = x.last;
          kept = (v.states x.last).1 (x.leads, live_closed.accepting a x.last x.accepting);
          accepting = rw v.same_type x.accepting;
        },
  )

-- an element that was opened plainly and can be brought to an end keeps a state
some_state : {S : Schema} {type set a : ℕ} {w : List ℕ} {fs : List Frame} → Level S type set plain a w → Suspended S (frame (own plain a) w ∷ fs)
    → set ≢ no_states
some_state {S} {a = a} {w} v (inner f s) e =
    let x = accepts_split w f.fills in
    let live : Live S a x.middle = record { word = labels f.forest; accepts = x.back; bear = forest_bears f.forest f.derived } in
    member_none x.middle (subst (λ (n : ℕ). T (member x.middle n)) e ((v.states x.middle).1 (x.front, live)))

-- Inside a nil element nothing can be opened.
nothing_inside : {S : Schema} {r : Reading} {a : ℕ} {w : List ℕ} → Level S (inner_type r) (inner_set r) nil a w → 0 < r.depth
    → {κ : Kind} {g j : ℕ} → CanOpen S r κ g j ↔ ((tag_of S j ≡ g) × Candidate S (own nil a) w κ j)
nothing_inside v inside = (
  λ c.
      let x = (c.some_open inside).1 in
      absurd (member_none x.from (subst (λ (n : ℕ). T (member x.from n)) v.states x.kept)),
  λ c. absurd (no_candidate c.1),
)

-- 17, whole: where the innermost element can be brought to an end, its content is complete exactly if it is all of it
pub complete_content : {S : Schema} {r : Reading} (κ : Kind) {a : ℕ} {w : List ℕ} {fs : List Frame}
    → Level S (inner_type r) (inner_set r) κ a w → Suspended S (frame (own κ a) w ∷ fs) → Complete S r ↔ ValidContent S κ a w
complete_content plain v s = (
  λ c. ⊎_elim (λ e. absurd (some_state v s e.1)) (λ e. (ends_word v).0 e) c,
  λ x. inr ((ends_word v).1 x),
)
complete_content {S} nil v s = (
  λ c. nil_content s,
  λ x. inl (subst (λ (b : ℕ). Nillable S b) (sym v.same_type) x.0, v.states),
)

-- 13, with nothing open
can_open_outside : {S : Schema} {r : Reading} {w : List ℕ} {κ : Kind} {g j : ℕ} → r.depth ≡ 0 → (w ≡ []) ↔ (r.rooted ≡ false)
    → CanOpen S r κ g j ↔ ((tag_of S j ≡ g) × Candidate S top w κ j)
can_open_outside z rooted = (
  λ c. let o = c.none_open z in (c.tag, candidate_outside.1 (rooted.1 o.1, o.0, c.bears)),
  λ c.
      let o = candidate_outside.0 c.1 in
      record {
        bears = o.2;
        tag = c.0;
        some_open = λ h. absurd (omega arith);
        none_open = λ e. (o.1, rooted.0 o.0);
      },
)

-- the outside's children are the root once there is one
some_child : {S : Schema} {e : List Event} (w : List ℕ) → Position S e (frame top w ∷ []) → w ≢ [] → OneRoot S w
some_child [] p h = absurd (h refl)
some_child (a ∷ w) p h = root_child p

-- 18, with nothing open
pub root_over : {S : Schema} {e : List Event} (r : Reading) {w : List ℕ} → r.depth ≡ 0 → (w ≡ []) ↔ (r.rooted ≡ false)
    → Position S e (frame top w ∷ []) → RootOver r ↔ OneRoot S w
root_over {S} r {w} z rooted p = (
  λ c. some_child w p (λ q. true≢false (sym c.opened ∙ rooted.0 q)),
  λ v. record { opened = not_false-true r.rooted (λ q. nil≢cons (sym (rooted.1 q) ∙ v.only)); closed = z },
)

children_bear : {S : Schema} {o : Owner} {w : List ℕ} {fs : List Frame} → Grown S (frame o w ∷ fs) → AllBear S w
children_bear (grown r b g) = b

-- the level that the reading has innermost
pub inner_level : {S : Schema} (r : Reading) {n : ℕ} {κ : Kind} {a : ℕ} {w : List ℕ} → r.depth ≡ suc n
    → Level S (get_or r.types n 0) (get_or r.sets n 0) κ a w → Level S (inner_type r) (inner_set r) κ a w
inner_level r e v = rw e v

-- What an opening asks of the innermost owner with the children w: which types it can give, and the states kept after one.
pub record Opens (S : Schema) (r : Reading) (o : Owner) (w : List ℕ) : Type 0 where
  pub can_open : (κ : Kind) (g j : ℕ) → CanOpen S r κ g j ↔ ((tag_of S j ≡ g) × Candidate S o w κ j)
  pub keeps :
      {κ : Kind} (j kept : ℕ) → Candidate S o w κ j → (0 < r.depth → (q : ℕ) → T (member q kept) ↔ LeadsTo S r j q)
      → OwnerKeeps S kept o (w ++ (j ∷ []))

pub opens : {S : Schema} {r : Reading} {n : ℕ} {o : Owner} {w : List ℕ} {fs : List Frame} → r.depth ≡ n → Grown S (frame o w ∷ fs)
    → Levels S r.types r.sets r.rooted n (frame o w ∷ fs) → Opens S r o w
opens e grows (outermost rooted) = record { can_open = λ κ g j. can_open_outside e rooted; keeps = λ j kept c k. tt }
opens {r = r} e grows (level {κ = κ} b v l) = by_kind κ (inner_level r e v) (omega arith) (children_bear grows)
  where
    by_kind : {S : Schema} (κ : Kind) {a : ℕ} {w : List ℕ} → Level S (inner_type r) (inner_set r) κ a w → 0 < r.depth → AllBear S w
        → Opens S r (own κ a) w
    by_kind plain i inside bear =
        record {
          can_open = λ κ g j. can_open_inside i inside bear;
          keeps = λ {κ} j kept c k q. Iff.trans (k inside q) (leads_to i (by_bears κ c.bears));
        }
    by_kind nil i inside bear = record { can_open = λ κ g j. nothing_inside i inside; keeps = λ j kept c. absurd (no_candidate c) }
