-- What putting a name or a term into the tables makes of the vocabulary. Assumes nothing.
use Rattle.std.proofs.Common.{◌≡◌, ℕ, ◌<◌, ◌≤◌, true, leb, List, map, length, vec_items, Option, Some, None, Ok, ok_or, sym, refl, ap, ◌∙◌, subst, arith}
use Rattle.std.proofs.lemmas.Bool.{cond-true, cond-false, lt-leb, ltb-true}
use Rattle.distinct.specs.Numbering.{Apart, number, added, entered}
use Rattle.names.specs.Name.{legal}
use Rattle.names.specs.declared.named.Name.{Name}
use Rattle.names.specs.declared.refusals.Refusal.TheVariants.{NamesFull}
use Rattle.tables.proofs.Adding.{added_some, keep_none, entered_shows}
use Rattle.tables.proofs.Behind.{apart_with}
use Rattle.tables.proofs.Fronts.{Fronts, Limits, keep_front, name_fronts}
use Rattle.tables.proofs.Numbers.{front_refl, front_trans, keep_is, label_is, with_fits, with_known}
use Rattle.tables.proofs.OneName.{none_fits, some_fits, name_sound, name_none}
use Rattle.tables.specs.Book.{Book, keep, book_of, book_with, names_of, limit_of}
use Rattle.tables.specs.Enters.{Orderly, Within}
use Rattle.tables.specs.Texts.{texts}
use Rattle.tables.specs.Vocabulary.{with_name}
use Rattle.terms.specs.Nodes.{name_bytes}
use Rattle.terms.specs.declared.nodes.Sort.{Sort}
use Rattle.terms.specs.declared.nodes.Sort.TheVariants.{OfClass, OfLink}
use Rattle.vocabulary.specs.Entries.{IsNumber}
use Rattle.vocabulary.specs.Held.{Held, InOrder, Grew, Placed, held_by, lexicon}
use Rattle.vocabulary.specs.Lexicon.{Lexicon}
use Rattle.names.specs.Refusal.{at}
use Rattle.vocabulary.specs.Placing.{place_if, place_name, place_item}
use Rattle.vocabulary.specs.declared.words.Words.{Words}

-- with another book

abbrev pub with_book : Held → Book → Held
with_book h b = record { book = b; items = h.items; item_limit = h.item_limit }

pub grew_refl : (h : Held) → Grew h h
grew_refl h = record { classes = front_refl h.book.classes; links = front_refl h.book.links; nodes = front_refl h.book.nodes; items = front_refl h.items; class_limit = refl; link_limit = refl; node_limit = refl; item_limit = refl }

pub grew_trans : (h i j : Held) → Grew h i → Grew i j → Grew h j
grew_trans h i j p q =
    record {
      classes = front_trans h.book.classes i.book.classes j.book.classes p.classes q.classes;
      links = front_trans h.book.links i.book.links j.book.links p.links q.links;
      nodes = front_trans h.book.nodes i.book.nodes j.book.nodes p.nodes q.nodes;
      items = front_trans h.items i.items j.items p.items q.items;
      class_limit = q.class_limit ∙ p.class_limit;
      link_limit = q.link_limit ∙ p.link_limit;
      node_limit = q.node_limit ∙ p.node_limit;
      item_limit = q.item_limit ∙ p.item_limit;
    }

-- a book that begins with that of h

pub grew_book : (h : Held) (b : Book) → Fronts h.book b → Limits h.book b → Grew h (with_book h b)
grew_book h b f l = record { classes = f.classes; links = f.links; nodes = f.nodes; items = front_refl h.items; class_limit = l.classes; link_limit = l.links; node_limit = l.nodes; item_limit = refl }

pub in_order_book : (h : Held) (b : Book) → InOrder h → Orderly b → Within b → Limits h.book b → InOrder (with_book h b)
in_order_book h b o sound room l = record { sound = sound; room = room; items = o.items; few = o.few; class_limit = l.classes ∙ o.class_limit; link_limit = l.links ∙ o.link_limit; node_limit = l.nodes ∙ o.node_limit; item_limit = o.item_limit }

-- a name put in among xs, whose limit n is the number m

number_is : (xs ys : List (List ℕ)) (w : List ℕ) (i : ℕ) → ys ≡ with_name xs w → i ≡ number ys w → IsNumber i ys w
number_is xs ys w i e n = (subst (λ k. k < length ys) (sym n) (subst (λ zs. number zs w < length zs) (sym e) (with_known xs w)), n)

module _ (f : ℕ) (w : List ℕ) (xs ys : List (List ℕ)) (n m : ℕ) (limit : n ≡ m) (few : length xs ≤ n) (is : ys ≡ keep n xs w xs w) where
  named : (h h' : Held) (P : ℕ → Held → Type 0) (k : Lexicon) (o : Option ℕ) → Grew h h' → (ys ≡ with_name xs w → k ≡ lexicon h') → ((i : ℕ) → IsNumber i ys w → P i h') → added xs n w ≡ o → Placed (place_if (leb (length (with_name xs w)) m) (at f NamesFull) k) (ok_or o (at f NamesFull)) P h h'
  named h h' P k (Some i) g same p e =
      let (free, num) = added_some n xs w i (sym e) in
      let it : ys ≡ with_name xs w = is ∙ keep_is n xs w free in
      record {
        grew = g;
        told = (
          cond-true (leb (length (with_name xs w)) m) _ _ (subst (λ l. leb (length (with_name xs w)) l ≡ true) limit (some_fits xs n w i few e)) ∙ ap Ok (same it),
          p i (number_is xs ys w i it (num ∙ label_is n xs w free ∙ ap (λ zs. number zs w) (sym it))),
        );
      }
  named h h' P k None g same p e =
      let over = ltb-true n (length (with_name xs w)) (none_fits xs n w e) in
      record { grew = g; told = cond-false (leb (length (with_name xs w)) m) _ _ (lt-leb (length (with_name xs w)) m (omega arith)) }

-- a class or a link put in, or an item

name_limits : (k : Sort) (w : List ℕ) (b : Book) → Limits b (book_with k w b)
name_limits OfClass w b = record { classes = refl; links = refl; nodes = refl }
name_limits OfLink w b = record { classes = refl; links = refl; nodes = refl }

abbrev pub with_name_of : Sort → List ℕ → Held → Held
with_name_of k w h = with_book h (book_with k w h.book)

abbrev pub with_item : List ℕ → Held → Held
with_item w h = record { book = h.book; items = keep h.item_limit h.items w h.items w; item_limit = h.item_limit }

-- what adding a name to the items leaves
pub item_added : (w : Words) (x : Name) (ys : List Name) (n : ℕ) → ys ≡ entered name_bytes (vec_items w.items.items) w.items.limit x → n ≡ w.items.limit → record { book = book_of w.tables; items = map name_bytes ys; item_limit = n } ≡ with_item (name_bytes x) (held_by w)
item_added w x ys n e l = let is = ap (map name_bytes) e ∙ entered_shows name_bytes w.items.limit (vec_items w.items.items) x in λ k. record { book = book_of w.tables; items = is k; item_limit = l k }

module _ (w : List ℕ) (h : Held) (order : InOrder h) where
  grown : (k : Sort) → Grew h (with_name_of k w h)
  grown k = grew_book h (book_with k w h.book) (name_fronts k w h.book) (name_limits k w h.book)

  -- another book in order, whose terms are written as they were

  abbrev Follows : Book → Type 0
  Follows b = Orderly b × Within b × (texts b ≡ texts h.book)

  follows : (k : Sort) (o : Option ℕ) → legal w ≡ true → added (names_of k h.book) (limit_of k h.book) w ≡ o → Follows (book_with k w h.book)
  follows k (Some i) l e = let (sound, room, is, num, same) = name_sound k h.book w i order.sound order.room l e in (sound, room, same)
  follows k None l e = subst Follows (sym (name_none k h.book w e)) (order.sound, order.room, refl)

  item_follows : (o : Option ℕ) → added h.items h.item_limit w ≡ o → Apart (with_item w h).items × (length (with_item w h).items ≤ h.item_limit)
  item_follows (Some i) e =
      let free = (added_some h.item_limit h.items w i (sym e)).0 in
      subst (λ xs. Apart xs × (length xs ≤ h.item_limit)) (sym (keep_is h.item_limit h.items w free)) (apart_with h.items w order.items, with_fits h.item_limit h.items w free (omega (arith, order.few, order.item_limit)))
  item_follows None e = subst (λ xs. Apart xs × (length xs ≤ h.item_limit)) (sym (keep_none h.item_limit h.items w e)) (order.items, omega (arith, order.few, order.item_limit))

  -- what was in order still is

  pub in_order_name : (k : Sort) → legal w ≡ true → InOrder (with_name_of k w h)
  in_order_name k l = let (sound, room, same) = follows k _ l refl in in_order_book h (book_with k w h.book) order sound room (name_limits k w h.book)

  pub in_order_item : InOrder (with_item w h)
  in_order_item = let (apart, few) = item_follows _ refl in record { sound = order.sound; room = order.room; items = apart; few = omega (arith, few, order.item_limit); class_limit = order.class_limit; link_limit = order.link_limit; node_limit = order.node_limit; item_limit = order.item_limit }

  pub name_placed : (k : Sort) (f : ℕ) → legal w ≡ true → Placed (place_name k f w (lexicon h)) (ok_or (added (names_of k h.book) (limit_of k h.book) w) (at f NamesFull)) (λ i j. IsNumber i (names_of k j.book) w) h (with_name_of k w h)
  name_placed OfClass f l =
      let same = (follows OfClass _ l refl).2 in
      named f w h.book.classes _ h.book.class_limit 64 order.class_limit order.room.classes refl h (with_name_of OfClass w h) _ _ _ (grown OfClass)
      (λ e. let p = sym e in let q = sym same in λ k. record { classes = p k; links = h.book.links; items = h.items; terms = q k }) (λ i n. n) refl
  name_placed OfLink f l =
      let same = (follows OfLink _ l refl).2 in
      named f w h.book.links _ h.book.link_limit 16 order.link_limit order.room.links refl h (with_name_of OfLink w h) _ _ _ (grown OfLink)
      (λ e. let p = sym e in let q = sym same in λ k. record { classes = h.book.classes; links = p k; items = h.items; terms = q k }) (λ i n. n) refl

  pub item_placed : (f : ℕ) → Placed (place_item f w (lexicon h)) (ok_or (added h.items h.item_limit w) (at f NamesFull)) (λ i j. IsNumber i j.items w) h (with_item w h)
  item_placed f =
      named f w h.items _ h.item_limit 32 order.item_limit (omega (arith, order.few, order.item_limit)) refl h (with_item w h) _ _ _
      (record { classes = front_refl h.book.classes; links = front_refl h.book.links; nodes = front_refl h.book.nodes; items = keep_front h.item_limit h.items w h.items w; class_limit = refl; link_limit = refl; node_limit = refl; item_limit = refl })
      (λ e. let p = sym e in λ k. record { classes = h.book.classes; links = h.book.links; items = p k; terms = (lexicon h).terms }) (λ i n. n) refl
