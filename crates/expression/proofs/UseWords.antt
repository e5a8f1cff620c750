-- The words of an expression's uses are the chains of what can come first, last and next.
use mathlib.Core.Path.{◌≡◌, refl}
use mathlib.Core.Logic.{◌⊎◌, inl, inr, ⊎_elim}
use mathlib.Core.List.{List, [], ◌∷◌, ◌++◌, append_assoc}
use Prim.Native.Nat.{ℕ, ◌+◌, ◌≤◌, ◌<◌}
use native.Mathlib.Decide.{dec_lt}
use native.Mathlib.Omega.{arith}
use Rattle.expression.specs.Expression.{Expression, empty_word, single, sequence, choice, repeat, Denotes}
use Rattle.expression.specs.Expression.{of_empty, of_single, of_sequence, of_first, of_second, of_none, of_more}
use Rattle.expression.specs.Automaton.{uses, numbered}
use Rattle.expression.proofs.Chains.{Can, Inside, in_sequence, in_choice, in_repeat, ends, goes, Chained, empty, begins}
use Rattle.expression.proofs.Chains.{inside_sequence, inside_choice, inside_repeat}
use Rattle.expression.proofs.Chains.{Cut, cut_map, Pieces, no_piece, piece, pieces_map}
use Rattle.expression.proofs.Chains.{sequence_chained, first_chained, second_chained, sequence_cut, choice_chained}
use Rattle.expression.proofs.Chains.{pieces_chained, repeat_pieces}

-- the words of a sequence, of a choice and of a repetition
pub sequence_words : {e f : Expression} {w : List ℕ} → Denotes (sequence e f) w → Cut (Denotes e) (Denotes f) w
sequence_words (of_sequence {v = v} {w = w} a b) = record { front = v; back = w; splits = refl; in_front = a; in_back = b }

words_sequence : {e f : Expression} {w : List ℕ} → Cut (Denotes e) (Denotes f) w → Denotes (sequence e f) w
words_sequence c = rw c.splits (of_sequence c.in_front c.in_back)

pub choice_words : {e f : Expression} {w : List ℕ} → Denotes (choice e f) w → Denotes e w ⊎ Denotes f w
choice_words (of_first a) = inl a
choice_words (of_second a) = inr a

pub repeat_words : {e : Expression} {w : List ℕ} → Denotes (repeat e) w → Pieces (Denotes e) w
repeat_words of_none = no_piece
repeat_words (of_more a r) = piece a (repeat_words r)

pub words_repeat : {e : Expression} {w : List ℕ} → Pieces (Denotes e) w → Denotes (repeat e) w
words_repeat no_piece = of_none
words_repeat (piece a r) = of_more a (words_repeat r)

-- with its uses numbered from n on: what can come first, last and next
abbrev pub can : ℕ → Expression → Can
can n empty_word = record { none = Unit; first = λ q. ⊥; last = λ q. ⊥; follow = λ p q. ⊥ }
can n (single j) = record { none = ⊥; first = λ q. q ≡ n; last = λ q. q ≡ n; follow = λ p q. ⊥ }
can n (sequence e f) = in_sequence (can n e) (can (n + uses e) f)
can n (choice e f) = in_choice (can n e) (can (n + uses e) f)
can n (repeat e) = in_repeat (can n e)

-- q is one of the k numbers from n on
pub record Among (n k q : ℕ) : Type 0 where
  pub least : n ≤ q
  pub below : q < n + k

module _ (n k m : ℕ) where
  among_first : (q : ℕ) → Among n k q → Among n (k + m) q
  among_first q a = omega (arith, a)

  among_second : (q : ℕ) → Among (n + k) m q → Among n (k + m) q
  among_second q a = omega (arith, a)

  among_apart : (q : ℕ) → Among n k q → Among (n + k) m q → ⊥
  among_apart q a b = omega (arith, a, b)

-- they are the uses
pub can_inside : (n : ℕ) (e : Expression) → Inside (can n e) (Among n (uses e))
can_inside n empty_word = record { first = λ q f. absurd f; last = λ q l. absurd l; follow = λ p q s. absurd s }
can_inside n (single j) = record { first = λ q f. omega arith; last = λ q l. omega arith; follow = λ p q s. absurd s }
can_inside n (sequence e f) =
    inside_sequence (can_inside n e) (can_inside (n + uses e) f) (among_first n (uses e) (uses f)) (among_second n (uses e) (uses f))
can_inside n (choice e f) =
    inside_choice (can_inside n e) (can_inside (n + uses e) f) (among_first n (uses e) (uses f)) (among_second n (uses e) (uses f))
can_inside n (repeat e) = inside_repeat (can_inside n e)

-- A list of uses is a word exactly if it is a chain.
pub word_chained : (n : ℕ) (e : Expression) (w : List ℕ) → Denotes (numbered n e) w → Chained (can n e) w
word_chained n empty_word w of_empty = empty tt
word_chained n (single j) w (of_single k) = begins refl (ends refl)
word_chained n (sequence e f) w d =
    let c = cut_map (word_chained n e) (word_chained (n + uses e) f) (sequence_words d) in
    rw c.splits (sequence_chained (can n e) (can (n + uses e) f) c.in_front c.in_back)
word_chained n (choice e f) w d =
    let E = can n e in
    let F = can (n + uses e) f in
    ⊎_elim (λ a. first_chained E F (word_chained n e w a)) (λ a. second_chained E F (word_chained (n + uses e) f w a)) (choice_words d)
word_chained n (repeat e) w d = pieces_chained (can n e) (pieces_map (word_chained n e) (repeat_words d))

pub chained_word : (n : ℕ) (e : Expression) (w : List ℕ) → Chained (can n e) w → Denotes (numbered n e) w
chained_word n empty_word w (empty c) = of_empty
chained_word n empty_word w (begins f c) = absurd f
chained_word n (single j) w (empty c) = absurd c
chained_word n (single j) w (begins f (ends l)) = rw f (of_single n)
chained_word n (single j) w (begins f (goes s c)) = absurd s
chained_word n (sequence e f) w c =
    words_sequence
    (cut_map (chained_word n e) (chained_word (n + uses e) f)
    (sequence_cut (can_inside n e) (can_inside (n + uses e) f) (among_apart n (uses e) (uses f)) c))
chained_word n (choice e f) w c =
    ⊎_elim (λ a. of_first (chained_word n e w a)) (λ a. of_second (chained_word (n + uses e) f w a))
    (choice_chained (can_inside n e) (can_inside (n + uses e) f) (among_apart n (uses e) (uses f)) c)
chained_word n (repeat e) w c = words_repeat (pieces_map (chained_word n e) (repeat_pieces (can n e) c))

-- each expression has a word
some_word : (n : ℕ) (e : Expression) → (w : List ℕ) × Denotes (numbered n e) w
some_word n empty_word = ([], of_empty)
some_word n (single j) = (n ∷ [], of_single n)
some_word n (sequence e f) =
    let a = some_word n e in
    let b = some_word (n + uses e) f in
    (a.0 ++ b.0, of_sequence a.1 b.1)
some_word n (choice e f) = let a = some_word n e in (a.0, of_first a.1)
some_word n (repeat e) = ([], of_none)

-- q stands in a word of the expression.
pub record Stands (e : Expression) (q : ℕ) : Type 0 where
  pub before : List ℕ
  pub rest : List ℕ
  pub word : Denotes e (before ++ q ∷ rest)

stands_first : {e : Expression} (f : Expression) {q : ℕ} (w : List ℕ) → Denotes f w → Stands e q → Stands (sequence e f) q
stands_first f {q} w d s =
    record { before = s.before; rest = s.rest ++ w; word = rw (← append_assoc s.before (q ∷ s.rest) w) (of_sequence s.word d) }

stands_second : (e : Expression) {f : Expression} {q : ℕ} (w : List ℕ) → Denotes e w → Stands f q → Stands (sequence e f) q
stands_second e {q = q} w d s =
    record { before = w ++ s.before; rest = s.rest; word = rw (append_assoc w s.before (q ∷ s.rest)) (of_sequence d s.word) }

-- each use does
pub use_stands : (n : ℕ) (e : Expression) (q : ℕ) → Among n (uses e) q → Stands (numbered n e) q
use_stands n empty_word q a = absurd (omega (arith, a))
use_stands n (single j) q a =
    let same : q ≡ n = omega (arith, a) in
    record { before = []; rest = []; word = rw same (of_single n) }
use_stands n (sequence e f) q a =
    let c = some_word n e in
    let d = some_word (n + uses e) f in
    elim (dec_lt q (n + uses e)) [
      | yes l ↦ stands_first (numbered (n + uses e) f) d.0 d.1 (use_stands n e q (omega (arith, a)))
      | no l ↦ stands_second (numbered n e) c.0 c.1 (use_stands (n + uses e) f q (omega (arith, a)))
    ]
use_stands n (choice e f) q a =
    elim (dec_lt q (n + uses e)) [
      | yes l ↦
          let s = use_stands n e q (omega (arith, a)) in
          record { before = s.before; rest = s.rest; word = of_first s.word }
      | no l ↦
          let s = use_stands (n + uses e) f q (omega (arith, a)) in
          record { before = s.before; rest = s.rest; word = of_second s.word }
    ]
use_stands n (repeat e) q a =
    let s = use_stands n e q a in
    record {
      before = s.before;
      rest = s.rest ++ [];
      word = rw (← append_assoc s.before (q ∷ s.rest) []) (of_more s.word of_none);
    }
