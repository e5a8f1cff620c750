-- How many elements some events leave open, and how deep they go: events alone, with no schema.
use mathlib.Core.Path.{◌≡◌, refl, sym, ◌∙◌, ap}
use mathlib.Core.List.{List, [], ◌∷◌, ◌++◌, append_assoc, tail}
use Prim.Native.Nat.{ℕ, suc, pred, max, ◌+◌, ◌≤◌}
use native.Mathlib.Omega.{arith}
use lib.ListN.{length}
use Rattle.sdtd.specs.Tree.{Kind, Tree, Forest, node, empty, more, height, heights}
use Rattle.sdtd.specs.Document.{Event, opening, closing, finish, stream, streams, document}
use Rattle.sdtd.specs.Reading.{OpenElement, with_child, open_after, depth}
use Rattle.sdtd.specs.Calls.{deepest_from, deepest}

-- how many elements are open after n open ones and then the events
abbrev depth_from : ℕ → List Event → ℕ
depth_from n [] = n
depth_from n (opening κ g ∷ e) = depth_from (suc n) e
depth_from n (closing g ∷ e) = depth_from (pred n) e
depth_from n (finish ∷ e) = depth_from n e

length-with_child : (n : ℕ) (xs : List OpenElement) → length (with_child n xs) ≡ length xs
length-with_child n [] = refl
length-with_child n (x ∷ xs) = refl

length-tail : (xs : List OpenElement) → length (tail xs) ≡ pred (length xs)
length-tail [] = refl
length-tail (x ∷ xs) = refl

length_open : (n : ℕ) (xs : List OpenElement) (e : List Event) → length (open_after n xs e) ≡ depth_from (length xs) e
length_open n xs [] = refl
length_open n xs (opening κ g ∷ e) = length_open (suc n) _ e ∙ ap (λ k. depth_from (suc k) e) (length-with_child n xs)
length_open n xs (closing g ∷ e) = length_open n _ e ∙ ap (λ k. depth_from k e) (length-tail xs)
length_open n xs (finish ∷ e) = length_open n xs e

depth_from_lem : (e : List Event) → depth e ≡ depth_from 0 e
depth_from_lem e = length_open 0 [] e

depth_append : (n : ℕ) (e f : List Event) → depth_from n (e ++ f) ≡ depth_from (depth_from n e) f
depth_append n [] f = refl
depth_append n (opening κ g ∷ e) f = depth_append (suc n) e f
depth_append n (closing g ∷ e) f = depth_append (pred n) e f
depth_append n (finish ∷ e) f = depth_append n e f

module _ (e : List Event) where
  depth_after : (f : List Event) → depth (e ++ f) ≡ depth_from (depth e) f
  depth_after f = depth_from_lem (e ++ f) ∙ depth_append 0 e f ∙ ap (λ k. depth_from k f) (sym (depth_from_lem e))

  pub depth-opening : (κ : Kind) (g : ℕ) → depth (e ++ (opening κ g ∷ [])) ≡ suc (depth e)
  depth-opening κ g = depth_after (opening κ g ∷ [])

  pub depth-closing : (g : ℕ) → depth (e ++ (closing g ∷ [])) ≡ pred (depth e)
  depth-closing g = depth_after (closing g ∷ [])

  pub depth-finish : depth (e ++ (finish ∷ [])) ≡ depth e
  depth-finish = depth_after (finish ∷ [])

deepest_least : (n : ℕ) (e : List Event) → n ≤ deepest_from n e
deepest_least n [] = omega arith
deepest_least n (opening κ g ∷ e) = omega (arith, deepest_least (suc n) e)
deepest_least n (closing g ∷ e) = omega arith
deepest_least n (finish ∷ e) = deepest_least n e

deepest_append : (n : ℕ) (e f : List Event) → deepest_from n (e ++ f) ≡ max (deepest_from n e) (deepest_from (depth_from n e) f)
deepest_append n [] f = omega (arith, deepest_least n f)
deepest_append n (opening κ g ∷ e) f = deepest_append (suc n) e f
deepest_append n (closing g ∷ e) f = omega (arith, deepest_append (pred n) e f)
deepest_append n (finish ∷ e) f = deepest_append n e f

depth_deepest_from : (n : ℕ) (e : List Event) → depth_from n e ≤ deepest_from n e
depth_deepest_from n [] = omega arith
depth_deepest_from n (opening κ g ∷ e) = depth_deepest_from (suc n) e
depth_deepest_from n (closing g ∷ e) = omega (arith, depth_deepest_from (pred n) e)
depth_deepest_from n (finish ∷ e) = depth_deepest_from n e

module _ (e : List Event) where
  pub depth-deepest : depth e ≤ deepest e
  depth-deepest = rw depth_from_lem (depth_deepest_from 0 e)

  deepest_after : (f : List Event) → deepest (e ++ f) ≡ max (deepest e) (deepest_from (depth e) f)
  deepest_after f = rw depth_from_lem (deepest_append 0 e f)

  pub deepest-opening : (κ : Kind) (g : ℕ) → deepest (e ++ (opening κ g ∷ [])) ≡ max (deepest e) (suc (depth e))
  deepest-opening κ g = deepest_after (opening κ g ∷ [])

  pub deepest-closing : (g : ℕ) → deepest (e ++ (closing g ∷ [])) ≡ deepest e
  deepest-closing g = omega (arith, deepest_after (closing g ∷ []), depth-deepest)

  pub deepest-finish : deepest (e ++ (finish ∷ [])) ≡ deepest e
  deepest-finish = omega (arith, deepest_after (finish ∷ []), depth-deepest)

  -- the deepest level of a beginning
  pub deepest_beginning : (f : List Event) → deepest e ≤ deepest (e ++ f)
  deepest_beginning f = omega (arith, deepest_after f)

mutual
  deepest_stream : (t : Tree) (n : ℕ) (e : List Event) → deepest_from n (stream t ++ e) ≡ max (n + height t) (deepest_from n e)
  deepest_stream (node κ a f) n e =
      rw (append_assoc (streams f) (closing a ∷ []) e) (omega (arith, deepest_streams f (suc n) (closing a ∷ e), deepest_least n e))

  deepest_streams : (f : Forest) (n : ℕ) (e : List Event) → deepest_from n (streams f ++ e) ≡ max (n + heights f) (deepest_from n e)
  deepest_streams empty n e = omega (arith, deepest_least n e)
  deepest_streams (more t f) n e =
      rw (append_assoc (stream t) (streams f) e) (omega (arith, deepest_stream t n (streams f ++ e), deepest_streams f n e))

pub deepest-document : (t : Tree) → deepest (document t) ≡ height t
deepest-document t = omega (arith, deepest_stream t 0 (finish ∷ []))
