-- Chains of numbers by what can come first, last and next: how they are joined and cut. Nothing here knows of expressions.
use mathlib.Core.Path.{◌≡◌, refl, ap}
use mathlib.Core.Logic.{◌⊎◌, inl, inr, ⊎_elim, ⊎_swap}
use mathlib.Core.List.{List, [], ◌∷◌, ◌++◌}
use Prim.Native.Nat.{ℕ}

-- What can come first, last and next in a word, and whether the empty word is one.
pub record Can : Type 1 where
  pub none : Type 0
  pub first : ℕ → Type 0
  pub last : ℕ → Type 0
  pub follow : ℕ → ℕ → Type 0

-- After p come the numbers of the list: each can follow the one before, and the last can come last.
pub data Chain (E : Can) : ℕ → List ℕ → Type 0 where
  ends : {p : ℕ} → E.last p → Chain E p []
  goes : {p q : ℕ} {w : List ℕ} → E.follow p q → Chain E q w → Chain E p (q ∷ w)

-- .. and the first can come first; or the list is empty, and may be.
pub data Chained (E : Can) : List ℕ → Type 0 where
  empty : E.none → Chained E []
  begins : {q : ℕ} {w : List ℕ} → E.first q → Chain E q w → Chained E (q ∷ w)

-- What can come first, last or next is inside P.
pub record Inside (E : Can) (P : ℕ → Type 0) : Type 0 where
  pub first : (q : ℕ) → E.first q → P q
  pub last : (q : ℕ) → E.last q → P q
  pub follow : (p q : ℕ) → E.follow p q → P p × P q

-- one after another; one of two; one zero or more times
abbrev pub in_sequence : Can → Can → Can
in_sequence E F =
    record {
      none = E.none × F.none;
      first = λ q. E.first q ⊎ (E.none × F.first q);
      last = λ q. F.last q ⊎ (F.none × E.last q);
      follow = λ p q. (E.follow p q ⊎ F.follow p q) ⊎ (E.last p × F.first q);
    }

abbrev pub in_choice : Can → Can → Can
in_choice E F =
    record {
      none = E.none ⊎ F.none;
      first = λ q. E.first q ⊎ F.first q;
      last = λ q. E.last q ⊎ F.last q;
      follow = λ p q. E.follow p q ⊎ F.follow p q;
    }

abbrev pub in_repeat : Can → Can
in_repeat E =
    record {
      none = Unit;
      first = E.first;
      last = E.last;
      follow = λ p q. E.follow p q ⊎ (E.last p × E.first q);
    }

-- what they can have first, last or next is what the parts can have
module _ {E F : Can} {P Q R : ℕ → Type 0} (in_e : Inside E P) (in_f : Inside F Q) (one : (q : ℕ) → P q → R q) (two : (q : ℕ) → Q q → R q) where
  follow_either : (p q : ℕ) → E.follow p q ⊎ F.follow p q → R p × R q
  follow_either p q (inl s) = let r = in_e.follow p q s in (one p r.0, one q r.1)
  follow_either p q (inr s) = let r = in_f.follow p q s in (two p r.0, two q r.1)

  pub inside_sequence : Inside (in_sequence E F) R
  inside_sequence =
      record {
        first = λ q. ⊎_elim (λ f. one q (in_e.first q f)) (λ f. two q (in_f.first q f.1));
        last = λ q. ⊎_elim (λ l. two q (in_f.last q l)) (λ l. one q (in_e.last q l.1));
        follow = λ p q. ⊎_elim (follow_either p q) (λ s. (one p (in_e.last p s.0), two q (in_f.first q s.1)));
      }

  pub inside_choice : Inside (in_choice E F) R
  inside_choice =
      record {
        first = λ q. ⊎_elim (λ f. one q (in_e.first q f)) (λ f. two q (in_f.first q f));
        last = λ q. ⊎_elim (λ l. one q (in_e.last q l)) (λ l. two q (in_f.last q l));
        follow = follow_either;
      }

pub inside_repeat : {E : Can} {P : ℕ → Type 0} → Inside E P → Inside (in_repeat E) P
inside_repeat a =
    record {
      first = a.first;
      last = a.last;
      follow = λ p q. ⊎_elim (a.follow p q) (λ s. (a.last p s.0, a.first q s.1));
    }

-- The list is one of P and then one of Q.
pub record Cut (P Q : List ℕ → Type 0) (w : List ℕ) : Type 0 where
  pub front : List ℕ
  pub back : List ℕ
  pub splits : w ≡ front ++ back
  pub in_front : P front
  pub in_back : Q back

-- It is lists of P one after another.
pub data Pieces (P : List ℕ → Type 0) : List ℕ → Type 0 where
  no_piece : Pieces P []
  piece : {v w : List ℕ} → P v → Pieces P w → Pieces P (v ++ w)

pub cut_map : {P Q P' Q' : List ℕ → Type 0} {w : List ℕ} → ((v : List ℕ) → P v → P' v) → ((v : List ℕ) → Q v → Q' v)
    → Cut P Q w → Cut P' Q' w
cut_map f g c =
    record {
      front = c.front;
      back = c.back;
      splits = c.splits;
      in_front = f c.front c.in_front;
      in_back = g c.back c.in_back;
    }

-- nothing in front; one more number in front
cut_none : {P Q : List ℕ → Type 0} {w : List ℕ} → P [] → Q w → Cut P Q w
cut_none {w = w} p q = record { front = []; back = w; splits = refl; in_front = p; in_back = q }

cut_cons : {P Q R : List ℕ → Type 0} (x : ℕ) {w : List ℕ} → ((v : List ℕ) → P v → R (x ∷ v)) → Cut P Q w → Cut R Q (x ∷ w)
cut_cons x f c =
    record {
      front = x ∷ c.front;
      back = c.back;
      splits = ap (x ∷◌) c.splits;
      in_front = f c.front c.in_front;
      in_back = c.in_back;
    }

pub pieces_map : {P Q : List ℕ → Type 0} {w : List ℕ} → ((v : List ℕ) → P v → Q v) → Pieces P w → Pieces Q w
pieces_map f no_piece = no_piece
pieces_map f (piece {v = v} p r) = piece (f v p) (pieces_map f r)

-- A chain of E that stays in P is one of F, if F can do what E can do there.
module _ {E F : Can} (P : ℕ → Type 0) (ends_too : (p : ℕ) → P p → E.last p → F.last p)
    (goes_too : (p q : ℕ) → P p → E.follow p q → F.follow p q × P q) where
  pub chain_stays : {p : ℕ} {w : List ℕ} → P p → Chain E p w → Chain F p w
  chain_stays {p} h (ends l) = ends (ends_too p h l)
  chain_stays {p} h (goes {q = q} s c) = let g = goes_too p q h s in goes g.0 (chain_stays g.1 c)

module _ (E F : Can) where
  second_chain : {p : ℕ} {w : List ℕ} → Chain F p w → Chain (in_sequence E F) p w
  second_chain c = chain_stays (λ p. Unit) (λ p h l. inl l) (λ p q h s. (inl (inr s), tt)) tt c

  chain_then : {p : ℕ} {v w : List ℕ} → Chain E p v → Chained F w → Chain (in_sequence E F) p (v ++ w)
  chain_then (ends l) (empty n) = ends (inr (n, l))
  chain_then (ends l) (begins f c) = goes (inr (l, f)) (second_chain c)
  chain_then (goes s c) r = goes (inl (inl s)) (chain_then c r)

  -- chains one after another are a chain of the sequence
  pub sequence_chained : {v w : List ℕ} → Chained E v → Chained F w → Chained (in_sequence E F) (v ++ w)
  sequence_chained (empty m) (empty n) = empty (m, n)
  sequence_chained (empty m) (begins f c) = begins (inr (m, f)) (second_chain c)
  sequence_chained (begins f c) r = begins (inl f) (chain_then c r)

  -- a chain of one of two is one of the choice
  pub first_chained : {w : List ℕ} → Chained E w → Chained (in_choice E F) w
  first_chained (empty n) = empty (inl n)
  first_chained (begins f c) = begins (inl f) (chain_stays (λ p. Unit) (λ p h l. inl l) (λ p q h s. (inl s, tt)) tt c)

  pub second_chained : {w : List ℕ} → Chained F w → Chained (in_choice E F) w
  second_chained (empty n) = empty (inr n)
  second_chained (begins f c) = begins (inr f) (chain_stays (λ p. Unit) (λ p h l. inr l) (λ p q h s. (inr s, tt)) tt c)

-- Conversely, where the numbers of the two are apart.
module _ {E F : Can} {P Q : ℕ → Type 0} (in_e : Inside E P) (in_f : Inside F Q) (apart : (q : ℕ) → P q → Q q → ⊥) where
  only_first : {p : ℕ} {w : List ℕ} → P p → Chain (in_choice E F) p w → Chain E p w
  only_first h c = chain_stays P last_too follow_too h c
    where
      last_too : (p : ℕ) → P p → (in_choice E F).last p → E.last p
      last_too p h (inl l) = l
      last_too p h (inr l) = absurd (apart p h (in_f.last p l))

      follow_too : (p q : ℕ) → P p → (in_choice E F).follow p q → E.follow p q × P q
      follow_too p q h (inl s) = (s, (in_e.follow p q s).1)
      follow_too p q h (inr s) = absurd (apart p h (in_f.follow p q s).0)

-- a choice the other way round has the same chains
choice_swap : (E F : Can) {p : ℕ} {w : List ℕ} → Chain (in_choice E F) p w → Chain (in_choice F E) p w
choice_swap E F c = chain_stays (λ p. Unit) (λ p h. ⊎_swap) (λ p q h s. (⊎_swap s, tt)) tt c

module _ {E F : Can} {P Q : ℕ → Type 0} (in_e : Inside E P) (in_f : Inside F Q) (apart : (q : ℕ) → P q → Q q → ⊥) where
  pub choice_chained : {w : List ℕ} → Chained (in_choice E F) w → Chained E w ⊎ Chained F w
  choice_chained (empty (inl n)) = inl (empty n)
  choice_chained (empty (inr n)) = inr (empty n)
  choice_chained (begins {q = q} (inl f) c) = inl (begins f (only_first in_e in_f apart (in_e.first q f) c))
  choice_chained (begins {q = q} (inr f) c) =
      inr (begins f (only_first in_f in_e (λ x h k. apart x k h) (in_f.first q f) (choice_swap E F c)))

  only_second : {p : ℕ} {w : List ℕ} → Q p → Chain (in_sequence E F) p w → Chain F p w
  only_second h c = chain_stays Q last_too follow_too h c
    where
      last_too : (p : ℕ) → Q p → (in_sequence E F).last p → F.last p
      last_too p h (inl l) = l
      last_too p h (inr l) = absurd (apart p (in_e.last p l.1) h)

      follow_too : (p q : ℕ) → Q p → (in_sequence E F).follow p q → F.follow p q × Q q
      follow_too p q h (inl (inl s)) = absurd (apart p (in_e.follow p q s).0 h)
      follow_too p q h (inl (inr s)) = (s, (in_f.follow p q s).1)
      follow_too p q h (inr s) = absurd (apart p (in_e.last p s.0) h)

  only_second_chained : {q : ℕ} {w : List ℕ} → F.first q → Chain (in_sequence E F) q w → Chained F (q ∷ w)
  only_second_chained {q} f c = begins f (only_second (in_f.first q f) c)

  chain_cut : {p : ℕ} {w : List ℕ} → P p → Chain (in_sequence E F) p w → Cut (Chain E p) (Chained F) w
  chain_cut {p} h (ends (inl l)) = absurd (apart p h (in_f.last p l))
  chain_cut h (ends (inr l)) = cut_none (ends l.1) (empty l.0)
  chain_cut {p} h (goes {q = q} (inl (inl s)) c) = cut_cons q (λ v. goes s) (chain_cut (in_e.follow p q s).1 c)
  chain_cut {p} h (goes {q = q} (inl (inr s)) c) = absurd (apart p h (in_f.follow p q s).0)
  chain_cut h (goes (inr s) c) = cut_none (ends s.0) (only_second_chained s.1 c)

  pub sequence_cut : {w : List ℕ} → Chained (in_sequence E F) w → Cut (Chained E) (Chained F) w
  sequence_cut (empty n) = cut_none (empty n.0) (empty n.1)
  sequence_cut (begins {q = q} (inl f) c) = cut_cons q (λ v. begins f) (chain_cut (in_e.first q f) c)
  sequence_cut (begins (inr f) c) = cut_none (empty f.0) (only_second_chained f.1 c)

-- The chains of a repetition are chains one after another.
module _ (E : Can) where
  chain_more : {p : ℕ} {v w : List ℕ} → Chain E p v → Chained (in_repeat E) w → Chain (in_repeat E) p (v ++ w)
  chain_more (ends l) (empty n) = ends l
  chain_more (ends l) (begins f c) = goes (inr (l, f)) c
  chain_more (goes s c) r = goes (inl s) (chain_more c r)

  more_chained : {v w : List ℕ} → Chained E v → Chained (in_repeat E) w → Chained (in_repeat E) (v ++ w)
  more_chained (empty n) r = r
  more_chained (begins f c) r = begins f (chain_more c r)

  pub pieces_chained : {w : List ℕ} → Pieces (Chained E) w → Chained (in_repeat E) w
  pieces_chained no_piece = empty tt
  pieces_chained (piece c r) = more_chained c (pieces_chained r)

  front_piece : {q : ℕ} {w : List ℕ} → E.first q → Cut (Chain E q) (Pieces (Chained E)) w → Pieces (Chained E) (q ∷ w)
  front_piece f c = rw c.splits (piece (begins f c.in_front) c.in_back)

  chain_pieces : {p : ℕ} {w : List ℕ} → Chain (in_repeat E) p w → Cut (Chain E p) (Pieces (Chained E)) w
  chain_pieces (ends l) = cut_none (ends l) no_piece
  chain_pieces (goes {q = q} (inl s) c) = cut_cons q (λ v. goes s) (chain_pieces c)
  chain_pieces (goes (inr s) c) = cut_none (ends s.0) (front_piece s.1 (chain_pieces c))

  pub repeat_pieces : {w : List ℕ} → Chained (in_repeat E) w → Pieces (Chained E) w
  repeat_pieces (empty n) = no_piece
  repeat_pieces (begins f c) = front_piece f (chain_pieces c)

-- Where a chain passes q: it goes on from there, could go on otherwise, and comes to q from somewhere.
pub record Through (E : Can) (q : ℕ) (rest : List ℕ) (Whole : List ℕ → Type 0) : Type 0 where
  pub after : Chain E q rest
  pub again : (w : List ℕ) → Chain E q w → Whole w
  pub into : E.first q ⊎ ((p : ℕ) × E.follow p q)

module _ {E : Can} {q : ℕ} {rest : List ℕ} where
  chain_through : {p : ℕ} (v : List ℕ) → Chain E p (v ++ q ∷ rest) → Through E q rest (λ w. Chain E p (v ++ q ∷ w))
  chain_through {p} [] (goes s c) = record { after = c; again = λ w d. goes s d; into = inr (p, s) }
  chain_through (x ∷ v) (goes s c) =
      let r = chain_through v c in
      record { after = r.after; again = λ w d. goes s (r.again w d); into = r.into }

  pub chained_through : (v : List ℕ) → Chained E (v ++ q ∷ rest) → Through E q rest (λ w. Chained E (v ++ q ∷ w))
  chained_through [] (begins f c) = record { after = c; again = λ w d. begins f d; into = inl f }
  chained_through (x ∷ v) (begins f c) =
      let r = chain_through v c in
      record { after = r.after; again = λ w d. begins f (r.again w d); into = r.into }

-- what a chain begins with, goes on with and ends with
pub chained_first : {E : Can} {q : ℕ} {w : List ℕ} → Chained E (q ∷ w) → E.first q
chained_first (begins f c) = f

pub chain_follow : {E : Can} {p q : ℕ} {w : List ℕ} → Chain E p (q ∷ w) → E.follow p q
chain_follow (goes s c) = s

pub chain_last : {E : Can} {p : ℕ} → Chain E p [] → E.last p
chain_last (ends l) = l

pub chained_none : {E : Can} → Chained E [] → E.none
chained_none (empty n) = n
