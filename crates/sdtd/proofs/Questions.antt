-- Document 01's questions for the events taken, by what comes next: after the questions before it, each says that the events with this one
-- begin a valid document.
use mathlib.Core.Path.{◌≡◌, refl, sym, ap, subst, ◌∙◌}
use mathlib.Core.Logic.{◌↔◌, ◌≢◌, ⊎_elim}
use mathlib.Core.List.{List, [], ◌∷◌, ◌++◌, map, append-nil, cons≢nil, nil≢cons, head-eq_of_cons-eq, tail-eq_of_cons-eq}
use mathlib.Core.List.Memᴰ
use mathlib.Core.List.{Memᴰ}
use Prim.Native.Nat.{ℕ, zero, suc, ◌<◌}
use native.Mathlib.Omega.{arith}
use lib.ListN.{length, get_or}
use lib.Dec.{T}
use Rattle.sdtd.specs.Schema.{Block, Schema, no_block, block_of, tag_of, Word}
use Rattle.sdtd.specs.Tree.{Kind, plain, nil, labels, ValidContent}
use Rattle.sdtd.specs.Document.{Event, opening, closing, finish, openings, Valid, type_at, BeginningOf, Begins}
use Rattle.sdtd.specs.Competition.{Competition}
use Rattle.sdtd.specs.Reading.{OpenElement, open_elements, no_element, NotFinished, depth, innermost, ChildrenFormWord, RootClosed}
use Rattle.sdtd.proofs.Trees.{relabel_event, opened, openings_relabel}
use Rattle.sdtd.proofs.Machine.{Owner, top, own, OneRoot, Frame, frame, Moves, opens, closes, ends}
use Rattle.sdtd.proofs.Machine.{Run, halt, move, no_move, start, run_split}
use Rattle.sdtd.proofs.Machine.{Suspended, outer, inner, suspended_run, run_suspended}
use Rattle.sdtd.proofs.Typed.{tagged, tagged_cut, run_valid}
use Rattle.sdtd.proofs.Position.{Position, position, position_begins, end_position, onward_only, onward_types}
use Rattle.sdtd.proofs.Next.{opening_move, closing_exactly, finish_move}
use Rattle.sdtd.proofs.Elements.{Elements, outside, element, elements_run}

-- each block's tag is below the count
abbrev pub TagsBelow : Schema → Type 0
TagsBelow S = (b : Block) → Memᴰ b S.blocks → b.tag < S.tags

no_run : {S : Schema} {τ : List Event} {f : Frame} {fs : List Frame} → Run S [] τ (f ∷ fs) → ⊥
no_run (move m r) = no_move m

-- while a frame is left, the events are not finished
run_unfinished : {S : Schema} {fs gs : List Frame} {f : Frame} {τ : List Event} → Run S fs τ (f ∷ gs) → NotFinished (tagged S τ)
run_unfinished (move opens r) m = ⊎_elim (λ e. let z : ◌≡◌ {A = ℕ} 0 1 = cc in omega arith) (λ k. run_unfinished r k) (Memᴰ.cases_cons m)
run_unfinished (move (closes w) r) m = ⊎_elim (λ e. let z : ◌≡◌ {A = ℕ} 0 1 = cc in omega arith) (λ k. run_unfinished r k) (Memᴰ.cases_cons m)
run_unfinished (move (ends w) r) m = no_run r
run_unfinished halt m = elim m [ ]

-- the last event of a beginning: the position before it and its typed move
record LastMove (S : Schema) (e : List Event) (x : Event) : Type 0 where
  owner : Owner
  children : List ℕ
  outer_frames : List Frame
  at : Position S e (frame owner children ∷ outer_frames)
  event : Event
  tag : relabel_event (tag_of S) event ≡ x
  frames : List Frame
  moves : Moves S (frame owner children ∷ outer_frames) event frames
  suspended : Suspended S frames

one_move : {S : Schema} {e τ : List Event} {x : Event} {fs gs : List Frame} (σ : List Event) → Run S start τ fs → tagged S τ ≡ e
    → Run S fs σ gs → tagged S σ ≡ x ∷ []
    → Suspended S gs → LastMove S e x
one_move [] h t k q s = absurd (cons≢nil (sym q))
one_move (y ∷ z ∷ σ) h t k q s = absurd (cons≢nil (tail-eq_of_cons-eq q))
one_move {fs = []} (y ∷ []) h t (move m halt) q s = absurd (no_move m)
one_move {τ = τ} {fs = frame o w ∷ fs} {gs = gs} (y ∷ []) h t (move m halt) q s =
    record {
      owner = o;
      children = w;
      outer_frames = fs;
      at = record { events = τ; run = h; tags = t; suspended = (run_suspended (move m (suspended_run s))).suspended };
      event = y;
      tag = head-eq_of_cons-eq q;
      frames = gs;
      moves = m;
      suspended = s;
    }

last_move : {S : Schema} (e : List Event) (x : Event) → Begins S (e ++ (x ∷ [])) → LastMove S e x
last_move {S} e x b =
    let p = (position b).at in
    let c = tagged_cut S p.events e p.tags in
    let t = run_split c.front (subst (λ (τ : List Event). Run S start τ (position b).frames) c.splits p.run) in
    one_move c.back t.front c.front_tags t.back c.back_tags p.suspended

pub position_unfinished : {S : Schema} {e : List Event} {f : Frame} {fs : List Frame} → Position S e (f ∷ fs) → NotFinished e
position_unfinished p = subst NotFinished p.tags (run_unfinished p.run)

-- Whatever comes next, the document is not yet finished.
pub begins_unfinished : {S : Schema} (e : List Event) (x : Event) → Begins S (e ++ (x ∷ [])) → NotFinished e
begins_unfinished e x b = position_unfinished (last_move e x b).at

-- a number whose block has a property that the block of no type has not is a type
block_in : (P : Block → Type 0) → ¬ P no_block → (bs : List Block) (n : ℕ) → P (get_or bs n no_block)
    → (n < length bs) × Memᴰ (get_or bs n no_block) bs
block_in P none [] n h = absurd (none h)
block_in P none (b ∷ bs) zero h = (omega arith, Memᴰ.head refl)
block_in P none (b ∷ bs) (suc n) h = let r = block_in P none bs n h in (omega arith, Memᴰ.tail r.1)

-- so is one with content
pub content_in : (S : Schema) (κ : Kind) (a : ℕ) (w : List ℕ) → ValidContent S κ a w → (a < length S.blocks) × Memᴰ (block_of S a) S.blocks
content_in S plain a w x = block_in (λ (b : Block). Word b w) (λ y. Memᴰ.not-nil y.accepting) S.blocks a x
content_in S nil a w x = block_in (λ (b : Block). T b.nillable) (λ t. t) S.blocks a x.0

-- its tag is below the count
content_tag : (S : Schema) → TagsBelow S → (κ : Kind) (a : ℕ) (w : List ℕ) → ValidContent S κ a w → tag_of S a < S.tags
content_tag S below κ a w x = below (block_of S a) (content_in S κ a w x).1

-- Question 13 answered yes: question 12 is answered yes too.
pub opening_tag : {S : Schema} → TagsBelow S → (e : List Event) (κ : Kind) (g : ℕ) → Begins S (e ++ (opening κ g ∷ [])) → g < S.tags
opening_tag {S} below e κ g b =
    let l = last_move e (opening κ g) b in
    let c = (opening_move l.moves l.suspended l.tag).0 in
    let b = c.candidate.bears in
    subst (λ (h : ℕ). h < S.tags) c.tag (content_tag S below κ c.type (labels b.children) b.derived.0)

-- The open elements at a position, by the types of any list that begins with the position's.
elements_of : {S : Schema} {e : List Event} {fs : List Frame} (p : Position S e fs) → NotFinished e → {ts : List ℕ} (r : List ℕ)
    → ts ≡ opened p.events ++ r
    → Elements S ts (open_elements e) fs
elements_of {S} {e} {fs} p n {ts} r q =
    subst (λ (x : List Event). NotFinished x → Elements S ts (open_elements x) fs) p.tags
    (λ m. ⊎_elim (λ x. x) (λ f. absurd (m f.0)) (elements_run [] r p.run q outside)) n

-- the types that the position itself gives
pub own_elements : {S : Schema} {e : List Event} {fs : List Frame} (p : Position S e fs) → NotFinished e
    → Elements S (opened p.events) (open_elements e) fs
own_elements p n = elements_of p n [] (sym (append-nil (opened p.events)))

-- what the innermost open element is where the innermost frame is an element's
pub record Innermost (S : Schema) (ts : List ℕ) (xs : List OpenElement) (κ : Kind) (a : ℕ) (w : List ℕ) : Type 0 where
  pub is_open : 0 < length xs
  pub kind : (get_or xs 0 no_element).kind ≡ κ
  pub tag : (get_or xs 0 no_element).tag ≡ tag_of S a
  pub type : get_or ts (get_or xs 0 no_element).place 0 ≡ a
  pub children : map (λ (n : ℕ). get_or ts n 0) (get_or xs 0 no_element).children ≡ w

pub innermost_of : {S : Schema} {ts : List ℕ} {xs : List OpenElement} {κ : Kind} {a : ℕ} {w : List ℕ} {fs : List Frame}
    → Elements S ts xs (frame (own κ a) w ∷ fs)
    → Innermost S ts xs κ a w
innermost_of (element k g t c m) = record { is_open = omega arith; kind = k; tag = g; type = t; children = c }

pub nothing_open : {S : Schema} {ts : List ℕ} {xs : List OpenElement} {w : List ℕ} {fs : List Frame}
    → Elements S ts xs (frame top w ∷ fs) → xs ≡ []
nothing_open outside = refl

append_nil_left : (v w : List ℕ) → v ++ w ≡ [] → v ≡ []
append_nil_left [] w e = refl
append_nil_left (x ∷ v) w e = absurd (cons≢nil e)

-- an open nil element that can be brought to an end has a nillable type and no children
pub nil_content : {S : Schema} {a : ℕ} {w : List ℕ} {fs : List Frame} → Suspended S (frame (own nil a) w ∷ fs) → ValidContent S nil a w
nil_content {w = w} (inner f s) = (f.fills.0, append_nil_left w (labels f.forest) f.fills.1)

pub plain_not_nil : plain ≢ nil
plain_not_nil e = let z : ◌≡◌ {A = ℕ} 0 1 = cc in omega arith

-- Question 17, by the types of the innermost frame.
pub children_word : {S : Schema} → ¬ Competition S → {e : List Event} (κ : Kind) {a : ℕ} {w : List ℕ} {fs : List Frame}
    → Position S e (frame (own κ a) w ∷ fs)
    → ChildrenFormWord S e ↔ ValidContent S κ a w
children_word free nil p =
    let i = innermost_of (own_elements p (position_unfinished p)) in
    (λ c. nil_content p.suspended, λ x k. absurd (plain_not_nil (sym k ∙ i.kind)))
children_word {S} free {e} plain {a} {w} {fs} p = (
  λ c.
      let i = innermost_of (own_elements p (position_unfinished p)) in
      let b = position_begins p in
      (given b.valid b.beginning).0 (c (let k = i.kind in cc) b.whole b.valid b.beginning),
  λ x k d v b. (given v b).1 x,
)
  where
    given : {d : List Event} (v : Valid S d) (b : BeginningOf e d)
        → Word (block_of S (type_at v (innermost e).place)) (map (λ n. type_at v n) (innermost e).children) ↔ Word (block_of S a) w
    given v b =
        let o = onward_only free p v b.rest b.splits in
        let i = innermost_of (elements_of p (position_unfinished p) (opened o.rest) (onward_types o)) in
        rw (i.type, i.children) (λ x. x, λ x. x)

-- the closing's questions 11, 12, 15, 16 and 17 are all answered yes
pub record ClosingAsked (S : Schema) (e : List Event) (g : ℕ) : Type 0 where
  pub not_finished : NotFinished e
  pub tag_below : g < S.tags
  pub element_open : 0 < depth e
  pub innermost_tag : (innermost e).tag ≡ g
  pub word : ChildrenFormWord S e

some_frame : {S : Schema} {ts : List ℕ} {xs : List OpenElement} {fs : List Frame} → Elements S ts xs fs → fs ≢ []
some_frame outside q = cons≢nil q
some_frame (element k t m n l) q = cons≢nil q

-- with no frame left the events are finished
pub position_finished : {S : Schema} {e : List Event} → Position S e [] → ¬ NotFinished e
position_finished p n = some_frame (own_elements p n) refl

asked_begins : {S : Schema} → ¬ Competition S → {e : List Event} {g : ℕ} {fs : List Frame} {ts : List ℕ} {xs : List OpenElement}
    → Elements S ts xs fs
    → xs ≡ open_elements e → Position S e fs → ClosingAsked S e g → Begins S (e ++ (closing g ∷ []))
asked_begins free {e} outside q p c = absurd (let k = c.element_open in let z : 0 < 0 = rw (← q) at k in omega arith)
asked_begins free {g = g} (element {x = x} {xs = xs} {κ = κ} k t m n l) q p c =
    (closing_exactly free p g).1
    (sym t ∙ ap (λ (l : List OpenElement). (get_or l 0 no_element).tag) q ∙ c.innermost_tag, (children_word free κ p).0 c.word)

begins_asked : {S : Schema} → ¬ Competition S → TagsBelow S
    → {e : List Event} {g : ℕ} {o : Owner} {w : List ℕ} {fs gs : List Frame} {y : Event} → Position S e (frame o w ∷ fs)
    → Moves S (frame o w ∷ fs) y gs → relabel_event (tag_of S) y ≡ closing g → ClosingAsked S e g
begins_asked free below p opens q = let z : ◌≡◌ {A = ℕ} 0 1 = cc in absurd (omega arith)
begins_asked {S} free below {g = g} p (closes {κ = κ} {a = a} {w = w} x) q =
    let n = position_unfinished p in
    let i = innermost_of (own_elements p n) in
    let same : tag_of S a ≡ g = cc in
    record {
      not_finished = n;
      tag_below = subst (λ (h : ℕ). h < S.tags) same (content_tag S below κ a w x);
      element_open = i.is_open;
      innermost_tag = i.tag ∙ same;
      word = (children_word free κ p).1 x;
    }
begins_asked free below p (ends x) q = let z : ◌≡◌ {A = ℕ} 0 1 = cc in absurd (omega arith)

-- A closing's questions are answered yes exactly when the events with it begin a valid document.
pub closing_begins : {S : Schema} → ¬ Competition S → TagsBelow S → (e : List Event) (g : ℕ) → Begins S e
    → ClosingAsked S e g ↔ Begins S (e ++ (closing g ∷ []))
closing_begins free below e g b = (
  λ c. let p = (position b).at in asked_begins free (own_elements p c.not_finished) refl p c,
  λ k. let l = last_move e (closing g) k in begins_asked free below l.at l.moves l.tag,
)

-- the root has been opened: the outside has a child, or the document is ended
data RootSeen : List Frame → Type 0 where
  seen_end : RootSeen []
  seen_outside : {a : ℕ} {w : List ℕ} → RootSeen (frame top (a ∷ w) ∷ [])
  seen_inside : {κ : Kind} {a : ℕ} {w : List ℕ} {fs : List Frame} → RootSeen fs → RootSeen (frame (own κ a) w ∷ fs)

seen_run : {S : Schema} {fs gs : List Frame} {τ : List Event} → RootSeen fs → Run S fs τ gs → RootSeen gs
seen_run k halt = k
seen_run seen_end (move m r) = absurd (no_move m)
seen_run seen_outside (move opens r) = seen_run (seen_inside seen_outside) r
seen_run seen_outside (move (ends w) r) = seen_run seen_end r
seen_run (seen_inside k) (move opens r) = seen_run (seen_inside (seen_inside k)) r
seen_run (seen_inside k) (move (closes w) r) = seen_run k r

-- the outside has its one child once the root has been opened
seen_root : {S : Schema} {w : List ℕ} → RootSeen (frame top w ∷ []) → Suspended S (frame top w ∷ []) → OneRoot S w
seen_root (seen_outside {w = w}) (outer f) =
    let o = f.fills in
    let v : w ≡ [] = append_nil_left w (labels f.forest) (tail-eq_of_cons-eq o.only) in
    record { type = o.type; is_root = o.is_root; only = λ i. head-eq_of_cons-eq o.only i ∷ v i }

start_run : {S : Schema} {w : List ℕ} {fs : List Frame} {τ : List Event} → Run S start τ (frame top w ∷ fs) → 0 < openings τ
    → RootSeen (frame top w ∷ fs)
start_run halt o = absurd (omega arith)
start_run (move opens r) o = seen_run (seen_inside seen_outside) r
start_run (move (ends w) r) o = absurd (no_run r)

begins_closed : {S : Schema} {e : List Event} {w : List ℕ} {fs : List Frame} → Position S e (frame top w ∷ fs) → OneRoot S w
    → RootClosed e
begins_closed {S} p x =
    record {
      opened = subst (λ (n : ℕ). 0 < n) (sym (openings_relabel (tag_of S) p.events) ∙ ap openings p.tags) (some_opening p.run x);
      closed = ap length (nothing_open (own_elements p (position_unfinished p)));
    }
  where
    some_opening : {τ : List Event} {w : List ℕ} {fs : List Frame} → Run S start τ (frame top w ∷ fs) → OneRoot S w → 0 < openings τ
    some_opening halt o = absurd (nil≢cons o.only)
    some_opening (move opens r) o = omega arith
    some_opening (move (ends w) r) o = absurd (no_run r)

-- Question 18 with nothing open, by the outside's children: the root is read once there is one.
pub root_closed : {S : Schema} {e : List Event} {w : List ℕ} → Position S e (frame top w ∷ []) → RootClosed e ↔ OneRoot S w
root_closed {S} p = (
  λ c.
      let o : 0 < openings p.events =
      subst (λ (n : ℕ). 0 < n) (sym (ap openings p.tags) ∙ openings_relabel (tag_of S) p.events) c.opened in
      seen_root (start_run p.run o) p.suspended,
  begins_closed p,
)

pub root_child : {S : Schema} {e : List Event} {a : ℕ} {w : List ℕ} → Position S e (frame top (a ∷ w) ∷ [])
    → OneRoot S (a ∷ w)
root_child p = seen_root seen_outside p.suspended

closed_begins : {S : Schema} {e : List Event} {fs : List Frame} {ts : List ℕ} {xs : List OpenElement} → Elements S ts xs fs
    → xs ≡ open_elements e → Position S e fs
    → RootClosed e → Begins S (e ++ (finish ∷ []))
closed_begins outside q p c = position_begins (end_position p ((root_closed p).0 c))
closed_begins (element k t m n l) q p c = absurd (let d = ap length q ∙ c.closed in omega arith)

-- A finish's questions are answered yes exactly when the events with it begin a valid document.
pub finish_begins : {S : Schema} (e : List Event) → Begins S e → (NotFinished e × RootClosed e) ↔ Begins S (e ++ (finish ∷ []))
finish_begins {S} e b = (
  λ c. let p = (position b).at in closed_begins (own_elements p c.0) refl p c.1,
  λ k.
      let l = last_move e finish k in
      let f = finish_move l.moves l.tag in
      let p : Position S e (frame top l.children ∷ l.outer_frames) =
      subst (λ (o : Owner). Position S e (frame o l.children ∷ l.outer_frames)) f.0 l.at in
      (position_unfinished p, begins_closed p f.1),
)

end_valid : {S : Schema} {e : List Event} → Position S e [] → Valid S e
end_valid {S} p = subst (λ (d : List Event). Valid S d) p.tags (run_valid p.run).valid

ends_valid : {S : Schema} {e : List Event} {o : Owner} {w : List ℕ} {fs gs : List Frame} {y : Event} → Position S e (frame o w ∷ fs)
    → Moves S (frame o w ∷ fs) y gs
    → relabel_event (tag_of S) y ≡ finish → Valid S (e ++ (finish ∷ []))
ends_valid p opens q = let z : ◌≡◌ {A = ℕ} 0 1 = cc in absurd (omega arith)
ends_valid p (closes x) q = let z : ◌≡◌ {A = ℕ} 0 1 = cc in absurd (omega arith)
ends_valid p (ends x) q = end_valid (end_position p x)

-- What begins a valid document and ends in a finish is the whole of it.
pub finish_whole : {S : Schema} (e : List Event) → Begins S (e ++ (finish ∷ [])) → Valid S (e ++ (finish ∷ []))
finish_whole e b = let l = last_move e finish b in ends_valid l.at l.moves l.tag
