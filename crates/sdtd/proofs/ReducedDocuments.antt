-- A schema without the types that are not used: the same documents are valid, each typing is the old one renumbered, every type is used, and
-- there is a competition exactly if there was one.
use mathlib.Core.Path.{◌≡◌, refl, sym, ◌∙◌, ap, subst}
use mathlib.Core.Logic.{◌↔◌}
use mathlib.Core.Bool.{Bool}
use mathlib.Core.List.Memᴰ
use mathlib.Core.List.{List, [], ◌∷◌, map, Memᴰ, ◌++◌}
use Prim.Native.Nat.{ℕ, ◌<◌}
use native.Mathlib.Omega.{arith}
use lib.Dec.{T}
use lib.ListN.{length, get_or, get_or-map}
use Rattle.sdtd.specs.Schema.{Schema}
use Rattle.sdtd.specs.Tree.{Kind, Tree, node, label, labels, relabel, preorder, Derived, IsTyping}
use Rattle.sdtd.specs.Document.{Event, opening, document, openings, Valid, SomeValid, types_of, type_at, BeginningOf, Ambiguous}
use Rattle.sdtd.specs.Trim.{Bears, Used}
use Rattle.sdtd.specs.Competition.{Competition}
use Rattle.sdtd.specs.Reduced.{EveryTypeUsed, TellsUsed, new_number, reduced}
use Rattle.sdtd.proofs.Basics.{get_or_member}
use Rattle.sdtd.proofs.Trees.{preorder-relabel, openings-append}
use Rattle.sdtd.proofs.Trimming.{all_of, used_useful}
use Rattle.sdtd.proofs.Typed.{openings_types}
use Rattle.sdtd.proofs.Questions.{content_in}
use Rattle.sdtd.proofs.Ambiguity.{competition_is_ambiguity}
use Rattle.sdtd.proofs.NewNumbers.{new_zero, new_injective, new_onto, types_left}
use Rattle.sdtd.proofs.ReducedTypings.{AllKept, left_typing, old_typing, same_typed}

-- a tree-bearing type is below the number of types
pub bears_below : {S : Schema} {a : ℕ} → Bears S a → a < length S.blocks
bears_below {S} b = subst (λ (a : ℕ). a < length S.blocks) b.at_root (tree_below b.tree b.derived)
  where
    tree_below : (t : Tree) → Derived S t → label t < length S.blocks
    tree_below (node κ a f) d = (content_in S κ a (labels f) d.0).0

-- so is a used one
pub used_below : {S : Schema} {a : ℕ} → Used S a → a < length S.blocks
used_below u = bears_below (used_useful u).1

-- each type that a typing gives is used
pub typing_used : {S : Schema} {tree typed : Tree} {a : ℕ} → IsTyping S tree typed → Memᴰ a (preorder typed) → Used S a
typing_used {tree = tree} {typed} t m =
    record {
      whole = document tree;
      valid = record { tree = tree; is_document = refl; typing = record { typed = typed; is_typing = t } };
      given = m;
    }

-- an opening of a valid document has a type
opening_typed : {S : Schema} (e : List Event) (κ : Kind) (g : ℕ) {d : List Event} (v : Valid S d) → BeginningOf (e ++ (opening κ g ∷ [])) d
    → openings e < length (types_of v)
opening_typed e κ g v b =
    let f = e ++ (opening κ g ∷ []) in
    omega (arith, openings_types v, ap openings b.splits, openings-append f b.rest, openings-append e (opening κ g ∷ []))

-- The second document is the first under the reduced schema: the same tree, each type with its new number.
pub record Renumbered {S : Schema} (kept : ℕ → Bool) {d : List Event} (v : Valid S d) (v' : Valid (reduced kept S) d) : Type 0 where
  pub same_tree : v'.tree ≡ v.tree
  pub new_types : relabel (new_number kept) v.typing.typed ≡ v'.typing.typed

module _ {S : Schema} {kept : ℕ → Bool} {d : List Event} {v : Valid S d} {v' : Valid (reduced kept S) d} (r : Renumbered kept v v') where
  pub types_renumbered : types_of v' ≡ map (new_number kept) (types_of v)
  types_renumbered = sym (ap preorder r.new_types) ∙ preorder-relabel (new_number kept) v.typing.typed

  pub type_renumbered : (n : ℕ) → type_at v' n ≡ new_number kept (type_at v n)
  type_renumbered n =
      rw types_renumbered
      (subst (λ (z : ℕ). get_or (map (new_number kept) (types_of v)) n z ≡ new_number kept (type_at v n)) (new_zero kept)
      (get_or-map (new_number kept) (types_of v) n 0))

module _ {S : Schema} (kept : ℕ → Bool) (tells : TellsUsed S kept) where
  pub typing_kept : (tree typed : Tree) → IsTyping S tree typed → AllKept kept (preorder typed)
  typing_kept tree typed t = all_of (preorder typed) (λ a m. (tells a).1 (typing_used t m))

  -- each typing, renumbered
  pub reduced_typing : (tree typed : Tree) → IsTyping S tree typed → IsTyping (reduced kept S) tree (relabel (new_number kept) typed)
  reduced_typing tree typed t = left_typing kept S tree typed (typing_kept tree typed t) t

  -- no two of them become one
  pub reduced_injective : (tree₁ tree₂ typed₁ typed₂ : Tree) → IsTyping S tree₁ typed₁ → IsTyping S tree₂ typed₂
      → relabel (new_number kept) typed₁ ≡ relabel (new_number kept) typed₂ → typed₁ ≡ typed₂
  reduced_injective tree₁ tree₂ typed₁ typed₂ t u e =
      same_typed kept typed₁ typed₂ (typing_kept tree₁ typed₁ t) (typing_kept tree₂ typed₂ u) e

  pub left_valid : {d : List Event} (v : Valid S d) → (v' : Valid (reduced kept S) d) × Renumbered kept v v'
  left_valid v =
      let typed = v.typing.typed in (
        record {
          tree = v.tree;
          is_document = v.is_document;
          typing = record {
            typed = relabel (new_number kept) typed;
            is_typing = reduced_typing v.tree typed v.typing.is_typing;
          };
        },
        record { same_tree = refl; new_types = refl },
      )

  pub old_valid : {d : List Event} (v' : Valid (reduced kept S) d) → (v : Valid S d) × Renumbered kept v v'
  old_valid v' =
      let o = old_typing kept S v'.tree v'.typing.typed v'.typing.is_typing in (
        record {
          tree = v'.tree;
          is_document = v'.is_document;
          typing = record { typed = o.old; is_typing = o.is_typing };
        },
        record { same_tree = refl; new_types = o.renumbered },
      )

  -- "the same documents are valid"
  pub reduced_valid : (d : List Event) → Valid S d ↔ Valid (reduced kept S) d
  reduced_valid d = (λ v. (left_valid v).0, λ v. (old_valid v).0)

  pub reduced_some_valid : SomeValid S ↔ SomeValid (reduced kept S)
  reduced_some_valid = (
    λ s. record { whole = s.whole; valid = (left_valid s.valid).0 },
    λ s. record { whole = s.whole; valid = (old_valid s.valid).0 },
  )

  -- a used type is used after
  pub reduced_used : (a : ℕ) → Used S a → Used (reduced kept S) (new_number kept a)
  reduced_used a u =
      let r = left_valid u.valid in
      record {
        whole = u.whole;
        valid = r.0;
        given = subst (Memᴰ (new_number kept a)) (sym (types_renumbered r.1)) (Memᴰ.map (new_number kept) u.given);
      }

  -- No type is left that is not used.
  pub reduced_every_type_used : EveryTypeUsed (reduced kept S)
  reduced_every_type_used k l =
      let o = new_onto kept (length S.blocks) k (omega (arith, types_left kept S)) in
      subst (Used (reduced kept S)) o.number (reduced_used o.type ((tells o.type).0 o.is_kept))

  -- the type of an opening is kept
  opening_kept : (e : List Event) (κ : Kind) (g : ℕ) {d : List Event} (v : Valid S d) → BeginningOf (e ++ (opening κ g ∷ [])) d
      → T (kept (type_at v (openings e)))
  opening_kept e κ g v b =
      let t = v.typing in
      (tells (type_at v (openings e))).1 (typing_used t.is_typing (get_or_member (types_of v) (openings e) 0 (opening_typed e κ g v b)))

  ambiguous_left : Ambiguous S → Ambiguous (reduced kept S)
  ambiguous_left a =
      let r = left_valid a.valid₁ in
      let s = left_valid a.valid₂ in
      let n = openings a.before in
      record {
        document₁ = a.document₁;
        document₂ = a.document₂;
        valid₁ = r.0;
        valid₂ = s.0;
        before = a.before;
        kind = a.kind;
        tag = a.tag;
        agree = a.agree;
        differ = λ e.
            a.differ
            (new_injective kept (type_at a.valid₁ n) (type_at a.valid₂ n)
            (opening_kept a.before a.kind a.tag a.valid₁ a.agree.first)
            (opening_kept a.before a.kind a.tag a.valid₂ a.agree.second)
            (sym (type_renumbered r.1 n) ∙ e ∙ type_renumbered s.1 n));
      }

  ambiguous_before : Ambiguous (reduced kept S) → Ambiguous S
  ambiguous_before a =
      let r = old_valid a.valid₁ in
      let s = old_valid a.valid₂ in
      let n = openings a.before in
      record {
        document₁ = a.document₁;
        document₂ = a.document₂;
        valid₁ = r.0;
        valid₂ = s.0;
        before = a.before;
        kind = a.kind;
        tag = a.tag;
        agree = a.agree;
        differ = λ e. a.differ (type_renumbered r.1 n ∙ ap (new_number kept) e ∙ sym (type_renumbered s.1 n));
      }

  pub reduced_ambiguous : Ambiguous (reduced kept S) ↔ Ambiguous S
  reduced_ambiguous = (ambiguous_before, ambiguous_left)

  -- There is a competition exactly if there was one.
  pub reduced_competition : Competition (reduced kept S) ↔ Competition S
  reduced_competition = (
    λ c. competition_is_ambiguity.1 (ambiguous_before (competition_is_ambiguity.0 c)),
    λ c. competition_is_ambiguity.1 (ambiguous_left (competition_is_ambiguity.0 c)),
  )
