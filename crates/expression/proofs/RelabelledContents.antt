-- An expression with each type's image in its place is read back from its commands.
use mathlib.Core.Path.{◌≡◌, refl, sym, ap, ap₂, subst, ◌∙◌}
use mathlib.Core.Bool.{Bool, true, false, cond, true≢false}
use mathlib.Core.List.Memᴰ
use mathlib.Core.List.{List, [], ◌∷◌, ◌++◌, map, map-append, reverse, append_assoc, Memᴰ}
use Prim.Native.Nat.{ℕ, ◌+◌, ◌<◌}
use native.Mathlib.Omega.{arith}
use borrow.Author.Tests.{eqb-true, lt-ltb}
use lib.Dec.{eqb, ltb}
use lib.ListN.{length, length-append, length-map, length-reverse}
use Rattle.sdtd.specs.Limits.{most_types}
use Rattle.std.specs.Prelude.{Some}
use Rattle.command.specs.Command.{part_bytes, file_of, command_at, part_size}
use Rattle.command.specs.Relabelled.{relabel_part}
use Rattle.command.specs.declared.Command.{Command}
use Rattle.command.specs.declared.Command.TheVariants.{Expression}
use Rattle.command.specs.declared.Part.{Part}
use Rattle.command.specs.declared.Part.TheVariants.{OpenBracket, CloseBracket, Use, Or, Repeat, End}
use Rattle.command.proofs.CommandLaws.{read_back}
use Rattle.expression.specs.Expression.{Expression as Exp, sequence, choice}
use Rattle.expression.specs.Content.{Level, sequence_of, choice_from, choice_of, Name, SoFar, nothing_so_far, with_factor, closed, last_repeated}
use Rattle.expression.specs.Content.{on_part, failed_inside, after_part, is_end, Content, whole, content_at}
use Rattle.expression.specs.Parsing.{level_of, so_far, scan}
use Rattle.expression.proofs.UseTypes.{relabel_expression}
use Rattle.expression.proofs.WholeContents.{types_of, turn}
use Rattle.expression.proofs.ExpressionParts.{Parts, last, more, type_used, types_used, name_added, types_added, types_after, parts_types}
use Rattle.expression.proofs.ScanLaws.{scan_next, scan_part, scan_ends}

-- the commands of an expression with the parts xs, each type's image in its place
abbrev pub relabelled_parts : (ℕ → ℕ) → List Part → List Command
relabelled_parts image xs = map (λ x. Expression (relabel_part image x)) (xs ++ (End ∷ []))

-- what a whole expression says of its first command: it passes its questions, and ends the expression or leaves the rest whole
module _ (file : List ℕ) (i : ℕ) (r : SoFar) {e : Exp} {ns : List Name} {q : ℕ} where
  end_read : command_at file i ≡ Some (Expression End) → scan file i r ≡ whole e ns q
      → (failed_inside r (Some (Expression End)) ≡ 0) × (whole (choice_of r.level) (reverse r.names) i ≡ whole e ns q)
  end_read c s =
      let n = failed_inside r (command_at file i) in
      turn (eqb n 0) (on_part is_end false (command_at file i)) n i (sym (scan_next file i r) ∙ s)
      (λ a b w. (rw c at (eqb-true n 0 a), w)) (λ a b w. absurd (true≢false (rw c at b)))

  part_read : (x : Part) → command_at file i ≡ Some (Expression x) → is_end x ≡ false → scan file i r ≡ whole e ns q
      → (failed_inside r (Some (Expression x)) ≡ 0) × (scan file (i + part_size x) (after_part r i x) ≡ whole e ns q)
  part_read x c d s =
      let n = failed_inside r (command_at file i) in
      turn (eqb n 0) (on_part is_end false (command_at file i)) n i (sym (scan_next file i r) ∙ s)
      (λ a b w. absurd (true≢false (sym (rw c at b) ∙ d))) (λ a b w. (rw c at (eqb-true n 0 a), rw c at w))

module _ (image : ℕ → ℕ) where
  -- what is read so far with each type's image in its place, and the names ns
  abbrev relabel_level : Level → Level
  relabel_level l = level_of (map (relabel_expression image) l.sequences) (map (relabel_expression image) l.factors)

  abbrev relabel_so_far : List Name → SoFar → SoFar
  relabel_so_far ns r = so_far (map relabel_level r.around) (relabel_level r.level) ns r.repeatable

  sequence_relabelled : (fs : List Exp) → sequence_of (map (relabel_expression image) fs) ≡ relabel_expression image (sequence_of fs)
  sequence_relabelled [] = refl
  sequence_relabelled (f ∷ fs) = ap (λ (e : Exp). sequence e (relabel_expression image f)) (sequence_relabelled fs)

  choice_relabelled : (ss : List Exp) (e : Exp)
      → choice_from (map (relabel_expression image) ss) (relabel_expression image e) ≡ relabel_expression image (choice_from ss e)
  choice_relabelled [] e = refl
  choice_relabelled (s ∷ ss) e = ap (λ (f : Exp). choice f (relabel_expression image e)) (choice_relabelled ss s)

  level_relabelled : (l : Level) → choice_of (relabel_level l) ≡ relabel_expression image (choice_of l)
  level_relabelled l =
      ap (choice_from (map (relabel_expression image) l.sequences)) (sequence_relabelled l.factors)
      ∙ choice_relabelled l.sequences (sequence_of l.factors)

  repeated_relabelled : (fs : List Exp) → last_repeated (map (relabel_expression image) fs) ≡ map (relabel_expression image) (last_repeated fs)
  repeated_relabelled [] = refl
  repeated_relabelled (f ∷ fs) = refl

  closed_relabelled : (ls : List Level) (r : SoFar) (ns : List Name)
      → closed (map relabel_level ls) (relabel_so_far ns r) ≡ relabel_so_far ns (closed ls r)
  closed_relabelled [] r ns = refl
  closed_relabelled (l ∷ ls) r ns =
      ap (λ (f : Exp). so_far (map relabel_level ls) (with_factor f (relabel_level l)) ns true) (level_relabelled r.level)

  -- what is read after the relabelled part is what is read after the part, relabelled
  after_relabelled : (r : SoFar) (ns : List Name) (i k : ℕ) (x : Part)
      → after_part (relabel_so_far ns r) k (relabel_part image x) ≡ relabel_so_far (name_added k (relabel_part image x) ++ ns) (after_part r i x)
  unfolding after_part
  after_relabelled r ns i k OpenBracket = refl
  after_relabelled r ns i k CloseBracket = closed_relabelled r.around r ns
  after_relabelled r ns i k (Use j) = refl
  after_relabelled r ns i k Or = rw (sequence_relabelled r.level.factors)
  after_relabelled r ns i k Repeat = rw (repeated_relabelled r.level.factors)
  after_relabelled r ns i k End = refl

  -- the images of the types are in range: then the relabelled part passes the questions that the part passes
  abbrev Fits : List ℕ → Type 0
  Fits js = (j : ℕ) → Memᴰ j js → image j < most_types

  in_range : (a : Bool) (n : ℕ) → cond a n 4 ≡ 0 → n ≡ 0
  in_range true n h = h
  in_range false n h = absurd (omega arith)

  passes_relabelled : (r : SoFar) (ns : List Name) (x : Part) → length ns ≡ length r.names → Fits (type_used x)
      → failed_inside r (Some (Expression x)) ≡ 0 → failed_inside (relabel_so_far ns r) (Some (Expression (relabel_part image x))) ≡ 0
  passes_relabelled r ns OpenBracket l f h = rw (length-map r.around relabel_level) h
  passes_relabelled r ns CloseBracket l f h = rw (length-map r.around relabel_level) h
  passes_relabelled r ns (Use j) l f h =
      rw (lt-ltb (image j.0) most_types (f j.0 (Memᴰ.head refl)), l) (in_range (ltb j.0 most_types) _ h)
  passes_relabelled r ns Or l f h = h
  passes_relabelled r ns Repeat l f h = h
  passes_relabelled r ns End l f h = rw (length-map r.around relabel_level) h

  -- ns' names the images of what ns names
  abbrev SameNames : List Name → List Name → Type 0
  SameNames ns ns' = types_of (reverse ns') ≡ map image (types_of (reverse ns))

  same_count : (ns ns' : List Name) → SameNames ns ns' → length ns' ≡ length ns
  same_count ns ns' h =
      omega (
        arith,
        ap length h,
        length-map (reverse ns') (λ (x : Name). x.type),
        length-map (types_of (reverse ns)) image,
        length-map (reverse ns) (λ (x : Name). x.type),
        length-reverse ns,
        length-reverse ns',
      )

  type_relabelled : (x : Part) → type_used (relabel_part image x) ≡ map image (type_used x)
  type_relabelled OpenBracket = refl
  type_relabelled CloseBracket = refl
  type_relabelled (Use j) = refl
  type_relabelled Or = refl
  type_relabelled Repeat = refl
  type_relabelled End = refl

  same_after : (r : SoFar) (ns : List Name) (i k : ℕ) (x : Part) → SameNames r.names ns
      → SameNames (after_part r i x).names (name_added k (relabel_part image x) ++ ns)
  same_after r ns i k x h =
      types_added k (relabel_part image x) ns
      ∙ ap₂ (λ (l m : List ℕ). l ++ m) h (type_relabelled x)
      ∙ sym (map-append image (types_of (reverse r.names)) (type_used x))
      ∙ ap (map image) (sym (types_after r i x))

  -- a part that is no 3F stays none
  still_goes : (x : Part) → is_end x ≡ false → is_end (relabel_part image x) ≡ false
  still_goes OpenBracket h = refl
  still_goes CloseBracket h = refl
  still_goes (Use j) h = refl
  still_goes Or h = refl
  still_goes Repeat h = refl
  still_goes End h = h

  -- The content c is the relabelled expression, its names have the images of the types, and it ends before the place m.
  pub record RelabelledRead (c : Content) (e : Exp) (ns : List Name) (m : ℕ) : Type 0 where
    pub names : List Name
    pub end : ℕ
    pub read : c ≡ whole (relabel_expression image e) names end
    pub types : types_of names ≡ map image (types_of ns)
    pub ends : end + 1 ≡ m

  module _ (file : List ℕ) {e : Exp} {ns : List Name} {q : ℕ} (F rest : List ℕ) where
    read_end : (i : ℕ) (r : SoFar) (ns' : List Name) (before : List ℕ) → SameNames r.names ns' → command_at file i ≡ Some (Expression End)
        → scan file i r ≡ whole e ns q → command_at F (length before) ≡ Some (Expression End)
        → RelabelledRead (scan F (length before) (relabel_so_far ns' r)) e ns (length before + 1)
    read_end i r ns' before h c s d =
        let a = end_read file i r c s in
        let w : whole (choice_of r.level) (reverse r.names) i ≡ whole e ns q = a.1 in
        let same : choice_of r.level ≡ e = cc in
        let names : reverse r.names ≡ ns = cc in
        record {
          names = reverse ns';
          end = length before;
          read =
              scan_ends F (length before) (relabel_so_far ns' r) d
              (passes_relabelled r ns' End (same_count r.names ns' h) (λ j m. absurd (Memᴰ.not-nil m)) a.0)
              ∙ ap (λ (f : Exp). whole f (reverse ns') (length before)) (level_relabelled r.level ∙ ap (relabel_expression image) same);
          types = h ∙ ap (λ (l : List Name). map image (types_of l)) names;
          ends = refl;
        }

    read_parts : {i p : ℕ} {xs : List Part} → Parts file i xs p → (r : SoFar) (ns' : List Name) (before : List ℕ) → SameNames r.names ns'
        → Fits (types_used xs) → scan file i r ≡ whole e ns q → F ≡ before ++ (file_of (relabelled_parts image xs) ++ rest)
        → RelabelledRead (scan F (length before) (relabel_so_far ns' r)) e ns (length before + length (file_of (relabelled_parts image xs)))
    unfolding file_of
    read_parts {i} (last c) r ns' before h f s g =
        read_end i r ns' before h c s (read_back before rest (Expression End) g)
    read_parts {i} (more {x = x} {xs = xs} c n ps) r ns' before h f s g =
        let a = part_read file i r x c n s in
        let y = relabel_part image x in
        let tail = file_of (relabelled_parts image xs) in
        let k = length before in
        let long : length (before ++ part_bytes y) ≡ k + part_size y = length-append before (part_bytes y) in
        let g' : F ≡ before ++ (part_bytes y ++ (tail ++ rest)) = g ∙ ap (λ (l : List ℕ). before ++ l) (append_assoc (part_bytes y) tail rest) in
        let later =
        read_parts ps (after_part r i x) (name_added k y ++ ns') (before ++ part_bytes y) (same_after r ns' i k x h)
        (λ j m. f j (Memᴰ.append_right (type_used x) m)) a.1 (g' ∙ sym (append_assoc before (part_bytes y) (tail ++ rest))) in
        record {
          names = later.names;
          end = later.end;
          read =
              scan_part F k (relabel_so_far ns' r) y (read_back before (tail ++ rest) (Expression y) g')
              (passes_relabelled r ns' x (same_count r.names ns' h) (λ j m. f j (Memᴰ.append_left (types_used xs) m)) a.0)
              (still_goes x n)
              ∙ ap₂ (scan F) (sym long) (after_relabelled r ns' i k x)
              ∙ later.read;
          types = later.types;
          ends = omega (arith, later.ends, long, length-append (part_bytes y) tail);
        }

-- An expression with the parts xs is read back from its relabelled commands, whatever stands before and after them.
pub relabelled_read : (image : ℕ → ℕ) (file : List ℕ) (i : ℕ) {e : Exp} {ns : List Name} {p q : ℕ} {xs : List Part}
    → content_at file i ≡ whole e ns p → Parts file i xs q → ((j : ℕ) → Memᴰ j (types_of ns) → image j < most_types)
    → (F before rest : List ℕ) → F ≡ before ++ (file_of (relabelled_parts image xs) ++ rest)
    → RelabelledRead image (content_at F (length before)) e ns (length before + length (file_of (relabelled_parts image xs)))
unfolding content_at scan
relabelled_read image file i s ps fits F before rest g =
    let types = (parts_types file i s ps).0 in
    read_parts image file F rest ps nothing_so_far [] before refl (λ j m. fits j (subst (Memᴰ j) (sym types) m)) s g

-- The relabelled commands are the parts of that expression, relabelled.
pub relabelled_chain : (image : ℕ → ℕ) {file : List ℕ} {i p : ℕ} {xs : List Part} → Parts file i xs p → (F before rest : List ℕ)
    → F ≡ before ++ (file_of (relabelled_parts image xs) ++ rest)
    → (q : ℕ) × Parts F (length before) (map (relabel_part image) xs) q × (q + 1 ≡ length before + length (file_of (relabelled_parts image xs)))
unfolding file_of
relabelled_chain image (last c) F before rest g = (length before, last (read_back before rest (Expression End) g), refl)
relabelled_chain image (more {x = x} {xs = xs} c n ps) F before rest g =
    let y = relabel_part image x in
    let bytes = part_bytes y in
    let tail = file_of (relabelled_parts image xs) in
    let g' : F ≡ before ++ (bytes ++ (tail ++ rest)) = g ∙ ap (λ (l : List ℕ). before ++ l) (append_assoc bytes tail rest) in
    let later = relabelled_chain image ps F (before ++ bytes) rest (g' ∙ sym (append_assoc before bytes (tail ++ rest))) in
    let long : length (before ++ bytes) ≡ length before + part_size y = length-append before bytes in
    let chain : Parts F (length before + part_size y) (map (relabel_part image) xs) later.0 =
    subst (λ (k : ℕ). Parts F k (map (relabel_part image) xs) later.0) long later.1 in (
      later.0,
      more (read_back before (tail ++ rest) (Expression y) g') (still_goes image x n) chain,
      omega (arith, later.2, length-append bytes tail),
    )
