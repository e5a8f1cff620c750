-- With no competition a type once given stands: valid documents that share a beginning give its openings the same types, and a valid tree
-- has one typing.
use mathlib.Core.Path.{◌≡◌, refl, sym, ◌∙◌}
use mathlib.Core.List.{List, [], ◌++◌, append-nil}
use lib.ListN.{take}
use lib.Seq.{take_at}
use Rattle.sdtd.specs.Schema.{Schema}
use Rattle.sdtd.specs.Tree.{Tree, Typing}
use Rattle.sdtd.specs.Document.{Event, document, openings, Valid, types_of, BeginningOf}
use Rattle.sdtd.specs.Competition.{Competition}
use Rattle.sdtd.proofs.Trees.{opened, stream_injective}
use Rattle.sdtd.proofs.Machine.{Frame, Run, halt, move, no_move, ended}
use Rattle.sdtd.proofs.Typed.{valid_run, typed_events}
use Rattle.sdtd.proofs.Position.{Position, position, onward_only, onward_types, place_of}

module _ {S : Schema} (free : ¬ Competition S) where
  first_types : {e d : List Event} {fs : List Frame} (p : Position S e fs) (v : Valid S d) (b : BeginningOf e d)
      → take (openings e) (types_of v) ≡ opened p.events
  first_types {e} p v b =
      let o = onward_only free p v b.rest b.splits in
      rw (onward_types o) (take_at (opened p.events) (opened o.rest) (openings e) (place_of p))

  -- Item 4: two valid typed documents that share the beginning e give its openings the same types.
  pub same_types : {d₁ d₂ : List Event} (v₁ : Valid S d₁) (v₂ : Valid S d₂) (e : List Event) → BeginningOf e d₁ → BeginningOf e d₂
      → take (openings e) (types_of v₁) ≡ take (openings e) (types_of v₂)
  same_types {d₁} v₁ v₂ e b₁ b₂ =
      let p = (position (record { whole = d₁; valid = v₁; beginning = b₁ })).at in
      first_types p v₁ b₁ ∙ sym (first_types p v₂ b₂)

  end_of : {d : List Event} (v : Valid S d) → Position S d []
  end_of v = record { events = typed_events v; run = (valid_run v).run; tags = (valid_run v).tags; suspended = ended }

  nothing_left : {τ : List Event} {fs : List Frame} → Run S [] τ fs → τ ≡ []
  nothing_left halt = refl
  nothing_left (move m r) = absurd (no_move m)

  same_events : {d : List Event} (v₁ v₂ : Valid S d) → typed_events v₂ ≡ typed_events v₁
  unfolding end_of
  same_events {d} v₁ v₂ =
      let o = onward_only free (end_of v₁) v₂ [] (sym (append-nil d)) in
      o.events ∙ (λ i. typed_events v₁ ++ nothing_left o.run i) ∙ append-nil (typed_events v₁)

  -- Item 4: the typing of a valid tree is unique.
  pub one_typing : {tree : Tree} (t₁ t₂ : Typing S tree) → t₁.typed ≡ t₂.typed
  one_typing {tree} t₁ t₂ =
      let v₁ : Valid S (document tree) = record { tree = tree; is_document = refl; typing = t₁ } in
      let v₂ : Valid S (document tree) = record { tree = tree; is_document = refl; typing = t₂ } in
      stream_injective t₁.typed t₂.typed (same_events v₂ v₁)
