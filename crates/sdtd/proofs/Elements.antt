-- The open elements of the events so far are the frames of a typed reading: the same nesting, how the elements were opened, their tags and
-- types, and the types of their children so far.
use mathlib.Core.Path.{◌≡◌, refl, sym, ◌∙◌}
use mathlib.Core.Logic.{◌⊎◌, inl, inr, ⊎_elim}
use mathlib.Core.List.{List, [], ◌∷◌, ◌++◌, map, map-append, append_assoc, Memᴰ}
use Prim.Native.Nat.{ℕ, suc}
use native.Mathlib.Numerals.{add-one}
use lib.ListN.{length, get_or, length-append}
use lib.Seq.{get_or-append_seam}
use Rattle.sdtd.specs.Schema.{Schema, tag_of}
use Rattle.sdtd.specs.Tree.{Kind}
use Rattle.sdtd.specs.Document.{Event, finish}
use Rattle.sdtd.specs.Reading.{OpenElement, new_element, with_child, open_after}
use Rattle.sdtd.proofs.Trees.{opened}
use Rattle.sdtd.proofs.Machine.{Owner, top, own, Frame, frame, opens, closes, ends, Run, halt, move}
use Rattle.sdtd.proofs.Typed.{tagged}

-- The open elements xs are the frames, where ts are the types of all elements in the order of their openings.
pub data Elements (S : Schema) (ts : List ℕ) : List OpenElement → List Frame → Type 0 where
  outside : {w : List ℕ} → Elements S ts [] (frame top w ∷ [])
  element : {x : OpenElement} {xs : List OpenElement} {κ : Kind} {a : ℕ} {w : List ℕ} {fs : List Frame} → x.kind ≡ κ → x.tag ≡ tag_of S a
      → get_or ts x.place 0 ≡ a → map (λ (n : ℕ). get_or ts n 0) x.children ≡ w → Elements S ts xs fs
      → Elements S ts (x ∷ xs) (frame (own κ a) w ∷ fs)

-- the events are finished and nothing is left
abbrev Finished : List Event → List Frame → Type 0
Finished e fs = Memᴰ finish e × (fs ≡ [])

elements_with_child : {S : Schema} {ts : List ℕ} {xs : List OpenElement} {o : Owner} {w : List ℕ} {fs : List Frame} (n : ℕ) {j : ℕ} → get_or ts n 0 ≡ j
    → Elements S ts xs (frame o w ∷ fs) → Elements S ts (with_child n xs) (frame o (w ++ (j ∷ [])) ∷ fs)
elements_with_child n e outside = outside
elements_with_child {ts = ts} n e (element {x = x} k g p c m) =
    element k g p (map-append (λ (k : ℕ). get_or ts k 0) x.children (n ∷ []) ∙ (λ i. c i ++ (e i ∷ []))) m

next_place : (past : List ℕ) (j : ℕ) (later : List ℕ) {ts : List ℕ} → ts ≡ past ++ (j ∷ later) → get_or ts (length past) 0 ≡ j
next_place past j later e = rw e (get_or-append_seam past j later 0)

-- Through a run, with the types of the openings before it and after it.
pub elements_run : {S : Schema} {ts : List ℕ} {xs : List OpenElement} {fs fs' : List Frame} {τ : List Event} (past later : List ℕ)
    → Run S fs τ fs'
    → ts ≡ past ++ (opened τ ++ later) → Elements S ts xs fs
    → Elements S ts (open_after (length past) xs (tagged S τ)) fs' ⊎ Finished (tagged S τ) fs'
elements_run past later halt e m = inl m
elements_run {S} {ts} {xs} past later (move {fs'' = hs} {τ = τ} (opens {κ = κ} {a = j}) r) e m =
    let p = next_place past j (opened τ ++ later) e in
    let n : length (past ++ (j ∷ [])) ≡ suc (length past) = length-append past (j ∷ []) ∙ add-one (length past) in
    let ys : List OpenElement = new_element κ (tag_of S j) (length past) ∷ with_child (length past) xs in
    ⊎_elim
    (λ (k : Elements S ts (open_after (length (past ++ (j ∷ []))) ys (tagged S τ)) hs). inl (rw n at k))
    (λ f. inr (Memᴰ.tail f.0, f.1))
    (elements_run (past ++ (j ∷ [])) later r (e ∙ sym (append_assoc past (j ∷ []) (opened τ ++ later)))
    (element {x = new_element κ (tag_of S j) (length past)} refl refl p refl (elements_with_child (length past) p m)))
elements_run past later (move (closes w) r) e (element k g p c m) =
    ⊎_elim (λ k. inl k) (λ f. inr (Memᴰ.tail f.0, f.1)) (elements_run past later r e m)
elements_run past later (move (ends w) halt) e m = inr (Memᴰ.head refl, refl)
elements_run past later (move (ends w) (move r _)) e m = elim r [ ]
