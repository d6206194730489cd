-- Tables cut back to a mark are those at which it was taken. Assumes nothing.
use Rattle.std.proofs.Common.{◌≡◌, ℕ, List, length, take, sym, ap, ◌∙◌}
use Rattle.std.proofs.lemmas.List.{take_at}
use Rattle.tables.proofs.Fronts.{back}
use Rattle.tables.specs.Book.{Book}
use Rattle.tables.specs.Entry.{Front}
use Rattle.tables.specs.Undo.{cut}
use Rattle.vocabulary.specs.Held.{Held, Grew}
use Rattle.vocabulary.specs.Marks.{MarkOf}
use Rattle.vocabulary.specs.declared.words.Mark.{Mark}

front_cut : (xs ys : List (List ℕ)) (n : ℕ) → Front xs ys → n ≡ length xs → take n ys ≡ xs
front_cut xs ys n (zs, e) l = ap (take n) e ∙ take_at xs zs n (sym l)

pub undone : (m : Mark) (h h' : Held) (b : Book) (xs : List (List ℕ)) (l : ℕ) → b ≡ cut m.tables h'.book → xs ≡ take m.items h'.items → l ≡ h'.item_limit → MarkOf m h → Grew h h' → record { book = b; items = xs; item_limit = l } ≡ h
undone m h h' b xs l p q r k g =
    let book =
    p
    ∙ back h.book h'.book m.tables (record { classes = g.classes; links = g.links; nodes = g.nodes }) (record { classes = g.class_limit; links = g.link_limit; nodes = g.node_limit }) k.classes k.links k.nodes k.names_full k.terms_full
    in
    let items = q ∙ front_cut h.items h'.items m.items g.items k.items in
    let limit = r ∙ g.item_limit in
    λ i. record { book = book i; items = items i; item_limit = limit i }
