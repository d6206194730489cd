-- What entering a term into the tables makes of the vocabulary. Assumes nothing.
use Rattle.std.proofs.Common.{◌≡◌, ℕ, Bool, true, false, cond, ◌&&◌, leb, List, length, Ok, Err, Result, MatchResult, IfErr, sym, refl, ap, ◌∙◌, subst}
use Rattle.names.specs.declared.refusals.Fault.{Fault}
use Rattle.names.specs.declared.refusals.Refusal.{Refusal}
use Rattle.names.specs.declared.refusals.Refusal.TheVariants.{NamesFull, TermsFull}
use Rattle.tables.proofs.Fronts.{Limits, enters_fronts}
use Rattle.tables.specs.Book.{Book}
use Rattle.tables.specs.Enters.{Enters}
use Rattle.tables.specs.Texts.{names_fit, terms_fit, entering}
use Rattle.terms.specs.Parse.{after, reading}
use Rattle.terms.specs.Term.{Spelled}
use Rattle.terms.specs.Told.{IsRead}
use Rattle.vocabulary.proofs.Placings.{with_book, grew_refl, grew_book, in_order_book}
use Rattle.vocabulary.specs.Entries.{IsText, place_text}
use Rattle.vocabulary.specs.Held.{Held, InOrder, Grew, Placed, lexicon}
use Rattle.vocabulary.specs.Lexicon.{Lexicon, with_term}
use Rattle.names.specs.Refusal.{at}
use Rattle.vocabulary.specs.Placing.{thus, in_field, place_if, place_term}

-- the outcome of entering, told of the vocabulary and the field
abbrev turned : Lexicon → Result Spelled Refusal → Result Lexicon Fault
turned k (Ok t) = Ok k
turned k (Err e) = Err (at 3 e)

turned_is : (k : Lexicon) (t : Spelled) (x y : Bool) → turned k (cond x (cond y (Ok t) (Err TermsFull)) (Err NamesFull)) ≡ cond x (place_if y (at 3 TermsFull) k) (Err (at 3 NamesFull))
turned_is k t true true = refl
turned_is k t true false = refl
turned_is k t false y = refl

-- within limits a, b and c
abbrev within : ℕ → ℕ → ℕ → Lexicon → Result Lexicon Fault
within a b c k = cond (leb (length k.classes) a && leb (length k.links) b) (place_if (leb (length k.terms) c) (at 3 TermsFull) k) (Err (at 3 NamesFull))

enters_limits : {b c : Book} {t : Spelled} {i : ℕ} → Enters b t i c → Limits b c
enters_limits e = record { classes = e.limits.0; links = e.limits.1; nodes = e.limits.2 }

module _ (h : Held) (s : List ℕ) (o : InOrder h) where
  abbrev next : Spelled → Lexicon
  next t = with_term t (lexicon h)

  placing : (t : Spelled) → reading s ≡ Ok t → place_term t (lexicon h) ≡ turned (next t) (entering h.book s)
  placing t read =
      let p = sym o.class_limit in
      let q = sym o.link_limit in
      let r = sym o.node_limit in
      let limits : place_term t (lexicon h) ≡ within h.book.class_limit h.book.link_limit h.book.node_limit (next t) = λ j. within (p j) (q j) (r j) (next t) in
      limits
      ∙ sym (turned_is (next t) t (names_fit h.book t) (terms_fit h.book t))
      ∙ sym (ap (λ x. turned (next t) (after x (λ u. cond (names_fit h.book u) (cond (terms_fit h.book u) (Ok u) (Err TermsFull)) (Err NamesFull)))) read)

  term_placed : (i : ℕ) (b : Book) → (t : Spelled) × IsRead s t × (entering h.book s ≡ Ok t) × Enters h.book t i b → Placed (place_text s (lexicon h)) (Ok i) (λ j k. IsText j k s) h (with_book h b)
  term_placed i b (t, is, fits, e) =
      let read = is.exact in
      record {
        grew = grew_book h b (enters_fronts h.book t i b e) (enters_limits e);
        told = (
          ap (λ r. thus (in_field 3 r) (λ u. place_term u (lexicon h))) read
              ∙ placing t read
              ∙ ap (turned (next t)) fits
              ∙ (let p = sym e.classes in let q = sym e.links in let r = sym e.terms in λ k. Ok (record { classes = p k; links = q k; items = h.items; terms = r k })),
          (t, read, (e.below, e.reads)),
        );
      }

  refused_at : (e : Refusal) (r : Result Spelled Refusal) → reading s ≡ r → entering h.book s ≡ Err e → thus (in_field 3 r) (λ u. place_term u (lexicon h)) ≡ Err (at 3 e)
  refused_at e (Ok t) read not = placing t read ∙ ap (turned (next t)) not
  refused_at e (Err x) read not =
      let same = sym (ap (λ r. after r (λ u. cond (names_fit h.book u) (cond (terms_fit h.book u) (Ok u) (Err TermsFull)) (Err NamesFull))) read) ∙ not in cc

  -- what `enter` answered and left
  abbrev Entered : Result ℕ Refusal → Book → Type 0
  Entered r b = MatchResult r (λ i. (t : Spelled) × IsRead s t × (entering h.book s ≡ Ok t) × Enters h.book t i b) (λ e. entering h.book s ≡ Err e)

  pub in_order_after : (r : Result ℕ Refusal) (b : Book) → Entered r b → IfErr r (λ e. b ≡ h.book) → InOrder (with_book h b)
  in_order_after (Ok i) b (t, is, fits, e) same = in_order_book h b o e.sound e.room (enters_limits e)
  in_order_after (Err e) b refused same = subst (λ c. InOrder (with_book h c)) (sym same) o

  pub text_placed : (r : Result ℕ Refusal) (b : Book) (q : Result ℕ Fault) → Entered r b → IfErr r (λ e. b ≡ h.book) → MatchResult r (λ i. q ≡ Ok i) (λ e. q ≡ Err (at 3 e)) → Placed (place_text s (lexicon h)) q (λ j k. IsText j k s) h (with_book h b)
  text_placed (Ok i) b q entered same is = rw is (term_placed i b entered)
  text_placed (Err e) b q refused same is = rw is (record { grew = subst (λ c. Grew h (with_book h c)) (sym same) (grew_refl h); told = refused_at e (reading s) refl refused })
