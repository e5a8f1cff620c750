-- One call on the reading after the events e: its promise gives the right answer, and hands back the reading after the events then taken.
use mathlib.Core.Path.{◌≡◌, refl, sym, ap, subst, ◌∙◌}
use mathlib.Core.Logic.Iff
use mathlib.Core.Logic.{◌↔◌, ◌⊎◌, inl, inr}
use mathlib.Core.Bool.{false, true≢false}
use mathlib.Core.List.{List, [], ◌∷◌, ◌++◌, append-nil}
use Prim.Native.Nat.{ℕ, pred, ◌<◌}
use native.Mathlib.Omega.{arith}
use lib.ListN.{length, drop}
use Rattle.sdtd.specs.Limits.{most_levels}
use Rattle.sdtd.specs.Schema.{Schema, tag_of}
use Rattle.sdtd.specs.Tree.{Kind, ValidContent}
use Rattle.sdtd.specs.Document.{Event, opening, closing, finish, Begins}
use Rattle.sdtd.specs.Competition.{Competition, Accepted}
use Rattle.sdtd.specs.Answer.{Question, Answer, refused, ask, Ordered, typed, taken}
use Rattle.sdtd.specs.Reading.{depth, innermost, NotFinished, ChildrenFormWord, questions, TakenAnswer}
use Rattle.sdtd.specs.Calls.{if_taken}
use Rattle.sdtd.proofs.Machine.{Owner, top, own, OneRoot, Frame, frame}
use Rattle.sdtd.proofs.Follow.{Candidate}
use Rattle.sdtd.proofs.Position.{Position, position_grown, open_position, close_position, end_position}
use Rattle.sdtd.proofs.Next.{opening_exactly, opening_given}
use Rattle.sdtd.proofs.Questions.{position_unfinished, position_finished, own_elements, innermost_of, nothing_open, children_word}
use Rattle.sdtd.proofs.Questions.{root_closed}
use Rattle.reading.specs.declared.value.Reading.{Reading}
use Rattle.reading.specs.Levels.{inner_type}
use Rattle.reading.specs.Questions.{gives, CanOpen, OpeningTaken, opened, Complete, closed, after_finish, CallMeans, Next}
use Rattle.reading.specs.Questions as Promise
use Rattle.reading.proofs.Keeping.{Levels, outermost, level, Reads, over, going, After, after_within}
use Rattle.reading.proofs.Keeping.{Sized, some_frame, levels_of, levels_depth, levels_opened, opened_sized, closed_sized}
use Rattle.reading.proofs.Innermost.{inner_level, complete_content, root_over, Opens, opens}

-- The answer is right by the questions of the list, and the reading handed back is the one after the events then taken.
pub record Answered (S : Schema) (e : List Event) (x : Event) (qs : List (Question Answer)) (n : Next) : Type 0 where
  pub right : Ordered qs (TakenAnswer S e x) (n.answer)
  pub next : After S (e ++ if_taken (n.answer) x) n.reading

-- A question of the promise, and the question that it is for the events taken.
asked : {S : Schema} {e : List Event} {r : Reading} {x : Event} {i : ℕ} {P Q R : Type 0} {qs : List (Question Answer)} {n : Next}
    → After S e r → P ↔ Q → (P → R → Answered S e x qs n) → ((¬ P) × (n ≡ gives (refused i) r)) ⊎ (P × R)
    → Answered S e x (ask (refused i) Q ∷ qs) n
asked {S} {e} {x = x} k same next (inl o) =
    record {
      right = inl (λ q. o.0 (same.1 q), ap (λ (m : Next). m.answer) o.1);
      next = subst (λ (m : Next). After S (e ++ if_taken (m.answer) x) m.reading) (sym o.1) (rw append-nil k);
    }
asked k same next (inr o) = let a = next o.0 o.1 in record { right = inr (same.0 o.0, a.right); next = a.next }

-- the same question of both
same : {P : Type 0} → P ↔ P
same = (λ h. h, λ h. h)

-- The calls after question 11, on a reading that is not finished.
module _ {S : Schema} (free : ¬ Competition S) {e : List Event} {r : Reading} (k : After S e r) (unfinished : r.finished ≡ false)
    {x : Next} where
  opening_taken : {o : Owner} {w : List ℕ} {fs : List Frame} {κ : Kind} {g : ℕ} → Position S e (frame o w ∷ fs)
      → Levels S r.types r.sets r.rooted r.depth (frame o w ∷ fs) → Opens S r o w → r.depth < most_levels
      → OpeningTaken S r κ g x → Answered S e (opening κ g) [] x
  opening_taken {o} {w} {fs} {κ} {g} p l s h t =
      let j = t.type in
      let c : Candidate S o w κ j = ((s.can_open κ g j).0 t.can_open).1 in
      subst (Answered S e (opening κ g) []) (sym t.next)
      (subst (λ (h : ℕ). Answered S e (opening κ h) [] (gives (typed j) (opened κ r j t.kept))) t.can_open.tag
      (record {
        right = record { type = j; answer = refl; given = opening_given free p c };
        next =
            record {
              frames = frame (own κ j) [] ∷ frame o (w ++ (j ∷ [])) ∷ fs;
              at = open_position p c;
              reads =
                  going unfinished
                  (levels_opened t.kept (omega (arith, k.sized.types)) (omega (arith, k.sized.sets)) t.can_open.bears
                  (s.keeps j t.kept c t.keeps) l);
              sized = opened_sized κ j t.kept h k.sized;
            };
      }))

  opening_answered : (κ : Kind) (g : ℕ) (fs : List Frame) → Levels S r.types r.sets r.rooted r.depth fs → Position S e fs
      → Ordered (drop 2 (Promise.questions S r (opening κ g))) (OpeningTaken S r κ g) x
      → Answered S e (opening κ g) (drop 1 (questions S e (opening κ g))) x
  opening_answered κ g [] l p m = absurd (some_frame l refl)
  opening_answered κ g (frame o w ∷ fs) l p m =
      let s = opens refl (position_grown p) l in
      let deep : depth e ≡ r.depth = levels_depth (own_elements p (position_unfinished p)) l in
      let begins : ((j : ℕ) × CanOpen S r κ g j) ↔ Begins S (e ++ (opening κ g ∷ [])) =
      Iff.trans (
        λ c. let a = (s.can_open κ g c.0).0 c.1 in record { type = c.0; tag = a.0; candidate = a.1 },
        λ c. (c.type, (s.can_open κ g c.type).1 (c.tag, c.candidate)),
      ) (Iff.symm (opening_exactly free p κ g)) in
      asked k same
      (λ below. asked k begins (λ can. asked k (λ h. omega arith, λ h. omega arith) (λ h. opening_taken p l s h)))
      m

  closing_taken : {κ : Kind} {a : ℕ} {w : List ℕ} {fs : List Frame} {g : ℕ} → Position S e (frame (own κ a) w ∷ fs)
      → Levels S r.types r.sets r.rooted (pred r.depth) fs → tag_of S a ≡ g → ValidContent S κ a w
      → x ≡ gives taken (closed r) → Answered S e (closing g) [] x
  closing_taken {fs = fs} {g} p l t v q =
      let at : Position S (e ++ (closing g ∷ [])) fs = subst (λ (h : ℕ). Position S (e ++ (closing h ∷ [])) fs) t (close_position p v) in
      subst (Answered S e (closing g) []) (sym q)
      (record { right = refl; next = record { frames = fs; at = at; reads = going unfinished l; sized = closed_sized k.sized } })

  -- the depth is a number of its own here, so that the levels can be matched
  closing_answered : {fs : List Frame} {n : ℕ} (g : ℕ) → Levels S r.types r.sets r.rooted n fs → r.depth ≡ n → Position S e fs
      → Ordered (drop 2 (Promise.questions S r (closing g))) (λ y. y ≡ gives taken (closed r)) x
      → Answered S e (closing g) (drop 1 (questions S e (closing g))) x
  closing_answered g (outermost rooted) z p m =
      let none : depth e ≡ 0 = ap length (nothing_open (own_elements p (position_unfinished p))) in
      asked k same (λ below. asked k (λ h. absurd (omega arith), λ h. absurd (omega arith)) (λ h. absurd (omega arith))) m
  closing_answered g (level {κ = κ} rooted v l) z p m =
      let i = innermost_of (own_elements p (position_unfinished p)) in
      let u = inner_level r z v in
      let tag = ap (tag_of S) u.same_type in
      let tags : (tag_of S (inner_type r) ≡ g) ↔ ((innermost e).tag ≡ g) = (λ t. i.tag ∙ sym tag ∙ t, λ t. tag ∙ sym i.tag ∙ t) in
      let ends = complete_content κ u p.suspended in
      let word : Complete S r ↔ ChildrenFormWord S e = Iff.trans ends (Iff.symm (children_word free κ p)) in
      asked k same
      (λ below. asked k (λ h. i.is_open, λ h. omega arith)
      (λ h. asked k tags (λ t. asked k word (λ c. closing_taken p (rw z l) (sym tag ∙ t) (ends.0 c)))))
      m

  finish_taken : {w : List ℕ} → Position S e (frame top w ∷ []) → r.depth ≡ 0 → OneRoot S w → x ≡ gives taken (after_finish r)
      → Answered S e finish [] x
  finish_taken p z v q =
      let sized : Sized (after_finish r) = record { depth = k.sized.depth; types = k.sized.types; sets = k.sized.sets } in
      subst (Answered S e finish []) (sym q)
      (record { right = refl; next = record { frames = []; at = end_position p v; reads = over refl z; sized = sized } })

  finish_answered : {fs : List Frame} {n : ℕ} → Levels S r.types r.sets r.rooted n fs → r.depth ≡ n → Position S e fs
      → Ordered (drop 2 (Promise.questions S r finish)) (λ y. y ≡ gives taken (after_finish r)) x
      → Answered S e finish (drop 1 (questions S e finish)) x
  finish_answered (outermost rooted) z p m =
      let root = root_over r z rooted p in
      asked k (Iff.trans root (Iff.symm (root_closed p))) (λ c. finish_taken p z (root.0 c)) m
  finish_answered (level rooted v l) z p m =
      let i = (innermost_of (own_elements p (position_unfinished p))).is_open in
      asked k (λ c. absurd (omega (arith, c.closed)), λ c. absurd (omega (arith, c.closed))) (λ c. absurd (omega (arith, c.closed))) m

-- 11
pub not_finished : {S : Schema} {e : List Event} {r : Reading} (fs : List Frame) → Position S e fs → Reads S r fs
    → (r.finished ≡ false) ↔ NotFinished e
not_finished [] p (over f z) = (λ u. absurd (true≢false (sym f ∙ u)), λ n. absurd (position_finished p n))
not_finished [] p (going f l) = absurd (some_frame l refl)
not_finished (f ∷ fs) p (going u l) = (λ h. position_unfinished p, λ n. u)

-- a question that is answered yes
passed : {P Q R : Type 0} → P → ((¬ P) × Q) ⊎ (P × R) → R
passed h (inl o) = absurd (o.0 h)
passed h (inr o) = o.1

-- A call on the reading after e gives the right answer for e, and hands back the reading after the events then taken.
pub call_answered : {S : Schema} → Accepted S → {e : List Event} {r : Reading} → After S e r → (x : Event) {n : Next} → CallMeans S r x n
    → Answered S e x (questions S e x) n
call_answered accepted k (opening κ g) m =
    asked k (not_finished k.frames k.at k.reads)
    (λ u. opening_answered accepted.no_competition k u κ g k.frames (levels_of u k.reads) k.at)
    (passed (after_within accepted.within k) m)
call_answered accepted k (closing g) m =
    asked k (not_finished k.frames k.at k.reads)
    (λ u. closing_answered accepted.no_competition k u g (levels_of u k.reads) refl k.at)
    (passed (after_within accepted.within k) m)
call_answered accepted k finish m =
    asked k (not_finished k.frames k.at k.reads)
    (λ u. finish_answered accepted.no_competition k u (levels_of u k.reads) refl k.at)
    (passed (after_within accepted.within k) m)
