-- The law of entering, from what the builder made. Assumes nothing.
use Rattle.std.proofs.Common.{◌≡◌, ℕ, true, false, cond, List, length, IfErr, Ok, Err, is_err, Result, MatchResult, ◌⊎◌, sym, refl, ap, ◌∙◌, subst, inl, inr, arith}
use Rattle.std.proofs.lemmas.Bool.{leb-true}
use Rattle.std.proofs.lemmas.Grind.{common_steps}
use Rattle.names.specs.declared.refusals.Refusal.{Refusal}
use Rattle.names.specs.declared.refusals.Refusal.TheVariants.{NamesFull, TermsFull}
use Rattle.tables.proofs.Names.{went, names_fit_lem}
use Rattle.tables.proofs.Step.{Way, sound_of}
use Rattle.tables.proofs.Terms.{Done, done}
use Rattle.tables.proofs.Texts.{texts_long}
use Rattle.tables.specs.Book.{Book}
use Rattle.tables.specs.Entry.{Room, Named, Entry}
use Rattle.tables.specs.Enters.{Within, Orderly, Enters}
use Rattle.tables.proofs.Fronts.{back}
use Rattle.tables.specs.declared.tables.Mark.{Mark}
use Rattle.tables.specs.Undo.{cut, Full, Lacks, Refuses}
use Rattle.tables.specs.Entered.{entered, IsEntered}
use Rattle.tables.specs.Texts.{texts, parts, names_fit, terms_fit, entering}
use Rattle.tables.specs.Vocabulary.{with_names, class_names, link_names}
use Rattle.terms.specs.Parse.{after}
use Rattle.terms.specs.Term.{Spelled, Valid}
use Rattle.terms.specs.Told.{IsRead, IsRefused}

-- the term t, in a text s, was entered into b, whose flags are down
module _ (b : Book) (s : List ℕ) (t : Spelled) (read : IsRead s t) (sound : Orderly b) (room : Within b) (no_name : b.names_full ≡ false) (no_term : b.terms_full ≡ false) where
  abbrev end : Book
  end = (entered t b).book

  low : Room b
  low = record { classes = room.classes; links = room.links }

  names : end.names_full ≡ false → Named b end (class_names t) (link_names t)
  names = (went t b).named low

  names_fit_then : names_fit b t ≡ true → end.names_full ≡ false
  names_fit_then e = names_fit_lem t b no_name (grind (arith, common_steps)) (grind (arith, common_steps))

  names_fit_since : end.names_full ≡ false → names_fit b t ≡ true
  names_fit_since f =
      let n = names f in
      let l = (went t b).limits in
      let p = ap length n.classes in
      let q = ap length n.links in
      grind (arith, common_steps)

  whole : end.names_full ≡ false → Way b (parts t) end → Done b t (entered t b)
  whole = done t b read.readable.valid (sound_of sound) low

  terms_fit_then : end.names_full ≡ false → terms_fit b t ≡ true → end.terms_full ≡ false
  terms_fit_then f e = (whole f (inl (sound, room.nodes, no_term, leb-true (length (with_names (texts b) (parts t))) b.node_limit e))).free

  terms_fit_since : end.names_full ≡ false → end.terms_full ≡ false → terms_fit b t ≡ true
  terms_fit_since f g =
      let (_, fits, terms) = (whole f (inr g)).order sound room.nodes in
      let long = texts_long end in
      let same = ap length terms in
      let l = (went t b).limits in
      grind (arith, common_steps)

  entered_all : end.names_full ≡ false → end.terms_full ≡ false → Enters b t (entered t b).number end
  entered_all f g =
      let d = whole f (inr g) in
      let (order, fits, terms) = d.order sound room.nodes in
      let w = went t b in
      let n = names f in
      let l = (went t b).limits in
      record {
        classes = n.classes;
        links = n.links;
        terms = terms;
        nodes = w.fronts.nodes;
        limits = (l.classes, l.links, l.nodes);
        sound = order;
        room = record { classes = n.class_fits; links = n.link_fits; nodes = fits };
        below = d.below;
        reads = d.reads;
      }

  answers : entering b s ≡ cond (names_fit b t) (cond (terms_fit b t) (Ok t) (Err TermsFull)) (Err NamesFull)
  answers = ap (λ r. after r (λ t. cond (names_fit b t) (cond (terms_fit b t) (Ok t) (Err TermsFull)) (Err NamesFull))) read.exact

  pub names_lack : end.names_full ≡ true → entering b s ≡ Err NamesFull
  names_lack up = let a = answers in let n = names_fit_then in grind (arith, common_steps)

  pub terms_lack : end.names_full ≡ false → end.terms_full ≡ true → entering b s ≡ Err TermsFull
  terms_lack down up = let a = answers in let n = names_fit_since down in let l = terms_fit_then down in grind (arith, common_steps)

  pub enters : end.names_full ≡ false → end.terms_full ≡ false → (entering b s ≡ Ok t) × Enters b t (entered t b).number end
  enters down free = let a = answers in let n = names_fit_since down in let l = terms_fit_since down free in (grind (arith, common_steps), entered_all down free)

-- of tables of which less is known
entry : (t : Spelled) (b : Book) → Valid t → Entry t b (entered t b).number (entered t b).book
entry t b v =
    record {
      book = refl;
      number = refl;
      fits = names_fit_lem t b;
      names = (went t b).named;
      term = λ s r f g.
          let d = done t b v s r f (inr g) in
          let p = (went t b).fronts in
          record { classes = p.classes; links = p.links; nodes = p.nodes; sound = d.base; below = d.below; reads = d.reads };
    }

-- what holds of what entering makes holds of what was made
moved : (t : Spelled) (b : Book) (i : ℕ) (c : Book) (P : ℕ → Book → Type 0) → IsEntered t b i c → P (entered t b).number (entered t b).book → P i c
moved t b i c P (p, q) x = subst (λ k. P k c) (sym q) (subst (P (entered t b).number) (sym p) x)

-- the text s was read into b, whose flags are down, which answered r and left c; d is what is left in the end
module _ (b : Book) (s : List ℕ) (no_name : b.names_full ≡ false) (no_term : b.terms_full ≡ false) where
  abbrev Tried : Result ℕ Refusal → Book → Type 0
  Tried r c = MatchResult r (λ i. (t : Spelled) × IsRead s t × IsEntered t b i c) (λ e. IsRefused s e ⊎ Lacks s b e c)

  abbrev Steps : Result ℕ Refusal → Book → Type 0
  Steps r d = MatchResult r (λ i. (t : Spelled) × IsRead s t × Entry t b i d) (λ e. Refuses s b e × (d ≡ b))

  abbrev Law : Result ℕ Refusal → Book → Type 0
  Law r d = Orderly b → Within b → MatchResult r (λ i. (t : Spelled) × IsRead s t × (entering b s ≡ Ok t) × Enters b t i d) (λ e. entering b s ≡ Err e)

  pub tried : (r : Result ℕ Refusal) (c : Book) → is_err r ≡ false → c.names_full ≡ false → c.terms_full ≡ false → Tried r c → Steps r c × Law r c
  tried (Err e) c n f g h = cc
  tried (Ok i) c n f g (t, read, is) = (
    (t, read, moved t b i c (Entry t b) is (entry t b read.readable.valid)),
    λ sound room. let (told, e) = law sound room in (t, read, told, e),
  )
    where
      law : Orderly b → Within b → (entering b s ≡ Ok t) × Enters b t i c
      law sound room =
          let (told, e) = enters b s t read sound room no_name no_term (sym (ap (λ x. x.names_full) is.0) ∙ f) (sym (ap (λ x. x.terms_full) is.0) ∙ g) in
          (told, moved t b i c (Enters b t) is e)

  pub refused : (r : Result ℕ Refusal) (c d : Book) (m : Mark) → is_err r ≡ true → d ≡ cut m c → (m.classes ≡ length b.classes) × (m.links ≡ length b.links) × (m.nodes ≡ length b.nodes) → (t : Spelled) × IsRead s t → Tried r c → Steps r d × Law r d × IfErr r (λ e. d ≡ b)
  refused (Ok i) c d m n u l k h = cc
  refused (Err e) c d m n u l k (inl bad) = let p = k.1.exact in let q = bad.exact in cc
  refused (Err e) c d m n u (x, y, z) k (inr (t, read, full, left)) =
      let was : d ≡ b = u ∙ ap (cut m) left ∙ back b (entered t b).book m (went t b).fronts (went t b).limits x y z no_name no_term in
      ((inr (t, read, full), was), law full, was)
    where
      law : Full t b e → Orderly b → Within b → entering b s ≡ Err e
      law (inl (is, up)) sound room = names_lack b s t read sound room no_name no_term up ∙ ap Err (sym is)
      law (inr (is, down, up)) sound room = terms_lack b s t read sound room no_name no_term down up ∙ ap Err (sym is)
