-- Tables are in order in at most one way. Assumes nothing.
use mathlib.Core.Logic.{∥∥₁_elim}
use denote.Struct.Props.{props}
use Rattle.tables.specs.Book.{Book}
use Rattle.tables.specs.Enters.{Orderly, Within}
use Rattle.vocabulary.specs.Held.{Held, InOrder, held_by}
use Rattle.vocabulary.specs.declared.vocabularies.Vocabulary.{Vocabulary}

sound_prop : (b : Book) → IsProp (Orderly b)
sound_prop b x y = λ i. record {
  fair = (let p : IsProp (_) = hlevel props in p) x.fair y.fair i;
  apart = (let p : IsProp (_) = hlevel props in p) x.apart y.apart i;
  classes_apart = (let p : IsProp (_) = hlevel props in p) x.classes_apart y.classes_apart i;
  links_apart = (let p : IsProp (_) = hlevel props in p) x.links_apart y.links_apart i;
  classes_legal = (let p : IsProp (_) = hlevel props in p) x.classes_legal y.classes_legal i;
  links_legal = (let p : IsProp (_) = hlevel props in p) x.links_legal y.links_legal i;
  different = (let p : IsProp (_) = hlevel props in p) x.different y.different i;
}

room_prop : (b : Book) → IsProp (Within b)
room_prop b x y = λ i. record {
  classes = (let p : IsProp (_) = hlevel props in p) x.classes y.classes i;
  links = (let p : IsProp (_) = hlevel props in p) x.links y.links i;
  nodes = (let p : IsProp (_) = hlevel props in p) x.nodes y.nodes i;
}

pub in_order_prop : (h : Held) → IsProp (InOrder h)
in_order_prop h x y = λ i. record {
  sound = sound_prop h.book x.sound y.sound i;
  room = room_prop h.book x.room y.room i;
  items = (let p : IsProp (_) = hlevel props in p) x.items y.items i;
  few = (let p : IsProp (_) = hlevel props in p) x.few y.few i;
  class_limit = (let p : IsProp (_) = hlevel props in p) x.class_limit y.class_limit i;
  link_limit = (let p : IsProp (_) = hlevel props in p) x.link_limit y.link_limit i;
  node_limit = (let p : IsProp (_) = hlevel props in p) x.node_limit y.node_limit i;
  item_limit = (let p : IsProp (_) = hlevel props in p) x.item_limit y.item_limit i;
}

pub in_order : (h : Held) → ∥ InOrder h ∥₁ → InOrder h
in_order h e = ∥∥₁_elim e (in_order_prop h) (λ f. f)

-- a vocabulary's tables
pub ordered : (v : Vocabulary) → InOrder (held_by v.words)
ordered v = in_order (held_by v.words) v.order
