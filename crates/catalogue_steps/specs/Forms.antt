-- The form of the heads so far, as the code stores it.
use Rattle.std.specs.Prelude.{◌≡◌, refl, not, false, ◌&&◌, List, [], ◌∷◌, ◌++◌, eqb, length}
use Rattle.std.proofs.Common.{ap, ap₂, true≢false, arith, ne_eqb}
use Rattle.catalogue_rules.specs.Catalogue as definition
use Rattle.catalogue_rules.specs.Catalogue.{old, new, same_form}
use Rattle.catalogue_rules.specs.Read.{form_of, differs}
use Rattle.catalogue_records.specs.declared.Form.{Form}
use Rattle.catalogue_records.specs.declared.Form.TheVariants.{Old}
use Rattle.catalogue_records.specs.Stored.{stored_form}
use Rattle.catalogue_records.specs.EntriesIn.{form_in}
use Rattle.catalogue_records.specs.Entries.{form-back}

-- that of the entries; old where there is none
abbrev pub form_held : List definition.Entry → Form
form_held [] = Old
form_held (e ∷ es) = stored_form e.head.form

like : (f g : definition.Form) → not (same_form f g) ≡ false → f ≡ g
like old old e = refl
like old new e = absurd (true≢false e)
like new old e = absurd (true≢false e)
like new new e = refl

-- a form differs from it: there is an entry, and its form is another
pub differs-held : (es : List definition.Entry) (f : Form) → (not (eqb (length es) 0) && not (same_form (form_in (form_held es)) (form_in f))) ≡ differs (form_of es) (form_in f)
differs-held [] f = refl
differs-held (e ∷ es) f =
    ap₂ (λ t g. not t && not (same_form g (form_in f))) (ne_eqb (length (e ∷ es)) 0 (omega arith)) (form-back e.head.form)

-- an entry more has that form
pub held-entry : (es : List definition.Entry) (e : definition.Entry) → differs (form_of es) e.head.form ≡ false → form_held (es ++ (e ∷ [])) ≡ stored_form e.head.form
held-entry [] e d = refl
held-entry (x ∷ es) e d = ap stored_form (like x.head.form e.head.form d)

-- and so has a head after it
pub held-head : (es : List definition.Entry) (e : definition.Entry) (f : definition.Form) → differs (form_of (es ++ (e ∷ []))) f ≡ false → form_held (es ++ (e ∷ [])) ≡ stored_form f
held-head [] e f d = ap stored_form (like e.head.form f d)
held-head (x ∷ es) e f d = ap stored_form (like x.head.form f d)
