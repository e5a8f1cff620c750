-- The words of an expression are the types of its words of uses.
use mathlib.Core.Path.{◌≡◌, refl, ◌∙◌, ap}
use mathlib.Core.Logic.{◌↔◌, ⊎_elim}
use mathlib.Core.List.{List, [], ◌∷◌, ◌++◌, map, map-append}
use Prim.Native.Nat.{ℕ, ◌+◌, ◌<◌, pred}
use native.Mathlib.Omega.{arith}
use lib.ListN.{length, length-append, get_or, get_or-append}
use lib.Seq.{get_or-append-add}
use Rattle.expression.specs.Expression.{Expression, empty_word, single, sequence, choice, repeat, Denotes}
use Rattle.expression.specs.Expression.{of_empty, of_single, of_sequence, of_first, of_second, of_none, of_more}
use Rattle.expression.specs.Automaton.{named, uses, type_of_use, numbered, UseWord}
use Rattle.expression.proofs.Chains.{Pieces, no_piece, piece, pieces_map}
use Rattle.expression.proofs.UseWords.{sequence_words, choice_words, repeat_words, words_repeat}

-- the expression with h of each type in its place
abbrev pub relabel_expression : (ℕ → ℕ) → Expression → Expression
relabel_expression h empty_word = empty_word
relabel_expression h (single j) = single (h j)
relabel_expression h (sequence e f) = sequence (relabel_expression h e) (relabel_expression h f)
relabel_expression h (choice e f) = choice (relabel_expression h e) (relabel_expression h f)
relabel_expression h (repeat e) = repeat (relabel_expression h e)

-- w is h of each number of a list of P.
pub record Image (h : ℕ → ℕ) (P : List ℕ → Type 0) (w : List ℕ) : Type 0 where
  pub list : List ℕ
  pub is_one : P list
  pub types : w ≡ map h list

image_append : {h : ℕ → ℕ} {P Q R : List ℕ → Type 0} {v w : List ℕ} → ((u t : List ℕ) → P u → Q t → R (u ++ t))
    → Image h P v → Image h Q w → Image h R (v ++ w)
image_append {h} j a b =
    record {
      list = a.list ++ b.list;
      is_one = j a.list b.list a.is_one b.is_one;
      types = rw (a.types, b.types, map-append h a.list b.list) refl;
    }

pub image_map : {h : ℕ → ℕ} {P Q : List ℕ → Type 0} {w : List ℕ} → ((u : List ℕ) → P u → Q u) → Image h P w → Image h Q w
image_map f a = record { list = a.list; is_one = f a.list a.is_one; types = a.types }

pieces_image : {h : ℕ → ℕ} {P : List ℕ → Type 0} {w : List ℕ} → Pieces (Image h P) w → Image h (Pieces P) w
pieces_image no_piece = record { list = []; is_one = no_piece; types = refl }
pieces_image (piece a r) = image_append (λ u t. piece) a (pieces_image r)

-- The words of the relabelled expression are the words of the expression, relabelled.
relabelled_word : (h : ℕ → ℕ) {e : Expression} {w : List ℕ} → Denotes e w → Denotes (relabel_expression h e) (map h w)
relabelled_word h of_empty = of_empty
relabelled_word h (of_single j) = of_single (h j)
relabelled_word h (of_sequence {v = v} {w = w} a b) = rw (map-append h v w) (of_sequence (relabelled_word h a) (relabelled_word h b))
relabelled_word h (of_first a) = of_first (relabelled_word h a)
relabelled_word h (of_second a) = of_second (relabelled_word h a)
relabelled_word h of_none = of_none
relabelled_word h (of_more {v = v} {w = w} a r) = rw (map-append h v w) (of_more (relabelled_word h a) (relabelled_word h r))

word_image : (h : ℕ → ℕ) (e : Expression) (w : List ℕ) → Denotes (relabel_expression h e) w → Image h (Denotes e) w
word_image h empty_word w of_empty = record { list = []; is_one = of_empty; types = refl }
word_image h (single j) w (of_single k) = record { list = j ∷ []; is_one = of_single j; types = refl }
word_image h (sequence e f) w d =
    let c = sequence_words d in
    rw c.splits (image_append (λ u t. of_sequence) (word_image h e c.front c.in_front) (word_image h f c.back c.in_back))
word_image h (choice e f) w d =
    ⊎_elim (λ a. image_map (λ u. of_first) (word_image h e w a)) (λ a. image_map (λ u. of_second) (word_image h f w a)) (choice_words d)
word_image h (repeat e) w d = image_map (λ u. words_repeat) (pieces_image (pieces_map (word_image h e) (repeat_words d)))

-- each use names one type
pub named-uses : (e : Expression) → length (named e) ≡ uses e
named-uses empty_word = refl
named-uses (single j) = refl
named-uses (sequence e f) = rw (length-append, named-uses e, named-uses f)
named-uses (choice e f) = rw (length-append, named-uses e, named-uses f)
named-uses (repeat e) = named-uses e

-- h is the type of each use, the uses numbered from n on
abbrev Types : (ℕ → ℕ) → ℕ → Expression → Type 0
Types h n e = (i : ℕ) → i < uses e → h (n + i) ≡ get_or (named e) i 0

module _ (h : ℕ → ℕ) (n : ℕ) (e f : Expression)
    (t : (i : ℕ) → i < uses e + uses f → h (n + i) ≡ get_or (named e ++ named f) i 0) where
  types_first : Types h n e
  types_first i l = t i (omega arith) ∙ get_or-append (named e) (named f) 0 i (rw (named-uses e) l)

  types_second : Types h (n + uses e) f
  types_second i l =
      let place : n + uses e + i ≡ n + (uses e + i) = omega arith in
      rw (place, t (uses e + i) (omega arith), ← named-uses e) (get_or-append-add (named e) (named f) i 0)

-- so the numbered expression with the types in place of the numbers is the expression
relabelled_numbered : (h : ℕ → ℕ) (n : ℕ) (e : Expression) → Types h n e → relabel_expression h (numbered n e) ≡ e
relabelled_numbered h n empty_word t = refl
relabelled_numbered h n (single j) t =
    let place : n ≡ n + 0 = omega arith in
    ap single (ap h place ∙ t 0 (omega arith))
relabelled_numbered h n (sequence e f) t =
    rw (relabelled_numbered h n e (types_first h n e f t), relabelled_numbered h (n + uses e) f (types_second h n e f t))
relabelled_numbered h n (choice e f) t =
    rw (relabelled_numbered h n e (types_first h n e f t), relabelled_numbered h (n + uses e) f (types_second h n e f t))
relabelled_numbered h n (repeat e) t = ap repeat (relabelled_numbered h n e t)

numbered_types : (e : Expression) → Types (type_of_use e) 1 e
numbered_types e i l =
    let place : pred (1 + i) ≡ i = omega arith in
    ap (λ k. get_or (named e) k 0) place

-- A word of the expression is the types of a word of uses.
pub word_types : (e : Expression) (w : List ℕ) → Denotes e w ↔ Image (type_of_use e) (UseWord e) w
word_types e w =
    let same = relabelled_numbered (type_of_use e) 1 e (numbered_types e) in (
      λ d. word_image (type_of_use e) (numbered 1 e) w (rw same d),
      λ a. rw a.types (rw same at (relabelled_word (type_of_use e) a.is_one)),
    )
