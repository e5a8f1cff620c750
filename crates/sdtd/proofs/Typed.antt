-- Valid documents with their typings are exactly the runs of the machine with their images, with the same types.
use mathlib.Core.Path.{◌≡◌, refl, sym, ap, ◌∙◌}
use mathlib.Core.List.{List, [], ◌∷◌, ◌++◌, map, cons≢nil, head-eq_of_cons-eq, tail-eq_of_cons-eq}
use Prim.Native.Nat.{ℕ}
use lib.ListN.{length}
use Rattle.sdtd.specs.Schema.{Schema, tag_of}
use Rattle.sdtd.specs.Tree.{relabel}
use Rattle.sdtd.specs.Document.{Event, document, openings, Valid, types_of}
use Rattle.sdtd.proofs.Trees.{relabel_event, relabel-document, openings_relabel, opened, opened-document, length-opened}
use Rattle.sdtd.proofs.Machine.{Run, start, document_run, run_document}

-- the tags of typed events
abbrev pub tagged : Schema → List Event → List Event
tagged S τ = map (relabel_event (tag_of S)) τ

-- the stream of the tree of types
abbrev pub typed_events : {S : Schema} {d : List Event} → Valid S d → List Event
typed_events v = document v.typing.typed

-- a run whose tags are d
pub record TypedRun (S : Schema) (d τ : List Event) : Type 0 where
  pub run : Run S start τ []
  pub tags : tagged S τ ≡ d

pub valid_run : {S : Schema} {d : List Event} (v : Valid S d) → TypedRun S d (typed_events v)
valid_run {S} {d} v =
    let t = v.typing.typed in
    let i = v.typing.is_typing in
    record {
      run = document_run t i.derived i.root;
      tags = sym (relabel-document (tag_of S) t) ∙ ap document i.own_tags ∙ v.is_document;
    }

-- A typing gives as many types as the document has openings.
pub openings_types : {S : Schema} {d : List Event} (v : Valid S d) → openings d ≡ length (types_of v)
openings_types {S} v =
    let t = v.typing.typed in
    ap openings (sym (valid_run v).tags) ∙ openings_relabel (tag_of S) (document t) ∙ sym (length-opened (document t)) ∙ ap length (opened-document t)

-- a valid document whose typing gives the types
pub record ValidTyped (S : Schema) (d : List Event) (ts : List ℕ) : Type 0 where
  pub valid : Valid S d
  pub types : types_of valid ≡ ts

pub run_valid : {S : Schema} {τ : List Event} → Run S start τ [] → ValidTyped S (tagged S τ) (opened τ)
run_valid {S} {τ} r =
    let x = run_document r in
    let t = x.tree in
    record {
      valid =
          record {
            tree = relabel (tag_of S) t;
            is_document = relabel-document (tag_of S) t ∙ ap (tagged S) x.events;
            typing = record { typed = t; is_typing = record { own_tags = refl; root = x.root; derived = x.derived } };
          };
      types = sym (opened-document t) ∙ ap opened x.events;
    }

-- a list whose image is a and then b, cut between them
pub record MapCut (S : Schema) (xs a b : List Event) : Type 0 where
  pub front : List Event
  pub back : List Event
  pub splits : xs ≡ front ++ back
  pub front_tags : tagged S front ≡ a
  pub back_tags : tagged S back ≡ b

pub tagged_cut : (S : Schema) (xs a : List Event) {b : List Event} → tagged S xs ≡ a ++ b → MapCut S xs a b
tagged_cut S xs [] e = record { front = []; back = xs; splits = refl; front_tags = refl; back_tags = e }
tagged_cut S [] (x ∷ a) e = absurd (cons≢nil (sym e))
tagged_cut S (x ∷ xs) (y ∷ a) e =
    let c = tagged_cut S xs a (tail-eq_of_cons-eq e) in
    record {
      front = x ∷ c.front;
      back = c.back;
      splits = ap {B = List Event} (λ l. x ∷ l) c.splits;
      front_tags = λ i. head-eq_of_cons-eq e i ∷ c.front_tags i;
      back_tags = c.back_tags;
    }
