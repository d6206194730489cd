-- Whatever was called on a sheet, it holds the accepted lines, and the same calls come to the same. Assumes nothing.
use Rattle.std.proofs.Common.{◌≡◌, cond, List, ◌∷◌, map, is_ok, Ok, Err, Result, sym, refl, ◌∙◌, subst}
use Rattle.names.specs.declared.refusals.Fault.{Fault}
use Rattle.sheet.specs.Content.{Content}
use Rattle.sheet.specs.History.{Call, Event, Leads, nothing, next, outcome, accepted, Faithful, Repeatable}
use Rattle.sheet.specs.Outcome.{Told}

-- one call more, which counts only if it was accepted
one_more : (k j l : Content) (c : Call) (r : Result (Unit {0}) Fault) (es : List Event) → Told (outcome k c) r k j → Leads j es l → Leads k (cond (is_ok r) (record { call = c; answer = r } ∷ es) es) l
one_more k j l c (Ok u) es t h = next t h
one_more k j l c (Err e) es (o, same) h = subst (λ x. Leads x es l) same h

pub accepted_lead : {k l : Content} {es : List Event} → Leads k es l → Leads k (accepted es) l
accepted_lead nothing = nothing
accepted_lead (next {k} {j} {l} {e} {es} t h) = one_more k j l e.call e.answer (accepted es) t (accepted_lead h)

pub faithful : Faithful
faithful es k h = accepted_lead h

-- one outcome, one answer, one content
told_once : (o : Result Content Fault) (p q : Result (Unit {0}) Fault) (k i j : Content) → Told o p k i → Told o q k j → (p ≡ q) × (i ≡ j)
told_once o (Ok u) (Ok v) k i j s t = (refl, (cc))
told_once o (Ok u) (Err e) k i j s (t, b) = absurd (cc)
told_once o (Err e) (Ok u) k i j (s, a) t = absurd (cc)
told_once o (Err e) (Err f) k i j (s, a) (t, b) = ((cc), a ∙ sym b)

told_same : (k k' : Content) (c d : Call) (p q : Result (Unit {0}) Fault) (i j : Content) → k ≡ k' → c ≡ d → Told (outcome k c) p k i → Told (outcome k' d) q k' j → (p ≡ q) × (i ≡ j)
told_same k k' c d p q i j e f s t =
    told_once (outcome k c) p q k i j s (subst (λ x. Told (outcome x c) q x j) (sym e) (subst (λ y. Told (outcome k' y) q k' j) (sym f) t))

pub same_leads : {k l : Content} {es : List Event} → Leads k es l → {k' j : Content} {fs : List Event} → Leads k' fs j → k ≡ k' → map (λ e. e.call) es ≡ map (λ e. e.call) fs → (es ≡ fs) × (l ≡ j)
same_leads nothing nothing e m = (refl, e)
same_leads nothing (next t h) e m = absurd (cc)
same_leads (next t h) nothing e m = absurd (cc)
same_leads (next {k} {j = i} {e = a} {es} t h) (next {k = k'} {j} {e = b} {es = fs} u g) e m =
    let c : a.call ≡ b.call = cc in
    let rest : map (λ e. e.call) es ≡ map (λ e. e.call) fs = cc in
    let one = told_same k k' a.call b.call a.answer b.answer i j e c t u in
    let more = same_leads h g one.1 rest in
    (λ x. record { call = c x; answer = one.0 x } ∷ more.0 x, more.1)

pub repeatable : Repeatable
repeatable es fs k j p q m = same_leads p q refl m
