-- The lines of the openings, turn by turn.
use mathlib.Core.Path.{◌≡◌, refl, sym, ap, ap₂, subst, ◌∙◌}
use mathlib.Core.List.{List, [], ◌∷◌, ◌++◌}
use Prim.Native.Nat.{ℕ, ◌+◌, ◌^◌, ◌≤◌, ◌<◌}
use native.Mathlib.Numerals.{add-one}
use lib.ListN.{length, drop, get_or, drop_of_length-le}
use lib.Seq.{drop-cons}
use Rattle.sdtd.specs.declared.Tag.{Tag}
use Rattle.events.specs.Events.{events_of}
use Rattle.events.specs.Outline.{Line, outline, next_opening, OpeningsInTurn, start}
use Rattle.events.specs.declared.outline.Cursor.{Cursor}
use Rattle.std.specs.Prelude.{Option, Some, None}
use Rattle.events.proofs.Outlines.{outline_found}
use Rattle.text.specs.declared.page.Page.{Page}
use Rattle.text.specs.Page.{Sheet, sheet, laid, Lays}
use Rattle.text.proofs.PageLaws.{laid_append, laid_none}
use Rattle.report.specs.Text.{opening_line, opening_lines}

-- no line where there is no opening
no_lines : (js : List ℕ) → opening_lines js [] ≡ []
no_lines [] = refl
no_lines (j ∷ js) = refl

-- What is left to put: lines of the types that are left, for the openings that are found from the cursor on.
pub record Left (events types : List ℕ) (was is : Page) (cursor : Cursor) (i : ℕ) : Type 0 where
  pub lines : List Line
  pub in_turn : OpeningsInTurn events cursor lines
  pub same_buffer : is.out.ghost_name ≡ was.out.ghost_name
  pub to_go : laid (sheet is) (opening_lines (drop i types) lines) ≡ laid (sheet was) (opening_lines types (outline 0 (events_of events)))

pub all_left : (events types : List ℕ) (was : Page) → length events < 2 ^ 64 → Left events types was was start 0
all_left events types was h =
    record { lines = outline 0 (events_of events); in_turn = outline_found events h; same_buffer = refl; to_go = refl }

-- what a turn finds: the next line, or none
abbrev TurnLeft : List ℕ → List ℕ → Page → Page → ℕ → Option (Tag × Cursor) → Type 0
TurnLeft events types was is i (Some (g, c)) =
    (next : Page) (j : ℕ) → j ≡ get_or types i 0 → Lays is (opening_line c.level g.0 j) next → Left events types was next c (i + 1)
TurnLeft events types was is i None = Lays was (opening_lines types (outline 0 (events_of events))) is

module _ (events types : List ℕ) (was is : Page) (i : ℕ) (h : i < length types) (same_buffer : is.out.ghost_name ≡ was.out.ghost_name) where
  go_on : (c : Cursor) (ls : List Line) → OpeningsInTurn events c ls
      → laid (sheet is) (opening_lines (drop i types) ls) ≡ laid (sheet was) (opening_lines types (outline 0 (events_of events)))
      → TurnLeft events types was is i (next_opening events c)
  go_on c [] t g =
      subst (TurnLeft events types was is i) (sym t)
      (same_buffer, sym (laid_none (sheet is)) ∙ ap (laid (sheet is)) (sym (no_lines (drop i types))) ∙ g)
  go_on c (l ∷ ls) (next, q, level, t) g =
      let line = opening_line l.level l.tag (get_or types i 0) in
      let rest = opening_lines (drop (i + 1) types) ls in
      let split : opening_lines (drop i types) (l ∷ ls) ≡ line ++ rest = rw (add-one i, drop-cons types i 0) in
      subst (TurnLeft events types was is i) (sym q)
      (λ page j e k.
      record {
        lines = ls;
        in_turn = t;
        same_buffer = k.0 ∙ same_buffer;
        to_go =
            ap (λ (s : Sheet). laid s rest) (k.1 ∙ ap₂ (λ (m n : ℕ). laid (sheet is) (opening_line m l.tag n)) level e)
            ∙ sym (laid_append (sheet is) line rest)
            ∙ ap (laid (sheet is)) (sym split)
            ∙ g;
      })

pub turn_left : {events types : List ℕ} {was is : Page} {c : Cursor} {i : ℕ} {f : Option (Tag × Cursor)} → Left events types was is c i → i < length types
    → f ≡ next_opening events c → TurnLeft events types was is i f
turn_left {events} {types} {was} {is} {c} {i} x h q =
    subst (TurnLeft events types was is i) (sym q) (go_on events types was is i h x.same_buffer c x.lines x.in_turn x.to_go)

pub ended : {events types : List ℕ} {was is : Page} {c : Cursor} {i : ℕ} → Left events types was is c i → length types ≤ i
    → Lays was (opening_lines types (outline 0 (events_of events))) is
ended {types = types} {is = is} x h = (
  x.same_buffer,
  sym (laid_none (sheet is)) ∙ ap (λ (js : List ℕ). laid (sheet is) (opening_lines js x.lines)) (sym (drop_of_length-le types h)) ∙ x.to_go,
)
