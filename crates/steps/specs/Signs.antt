-- Laws of the sign step: no sign, a sign at the text's end, and a sign with something after it. Assumes nothing.
use Rattle.std.specs.Prelude.{◌≡◌, Bool, List, ℕ, ◌+◌, ◌≤◌, ◌<◌, leb, eqb, length, get_or}
use Rattle.std.proofs.Math.Path.{refl, ap}
use Rattle.std.proofs.Common.{sym, ◌∙◌, arith}
use Rattle.std.proofs.Math.Bool.{true, false}
use borrow.Author.Tests.{le-leb, lt-leb, leb-true, leb-false, eqb-true}
use Rattle.rules.specs.declared.Settings.{Settings}
use Rattle.rules.specs.declared.Signed.{Signed}
use Rattle.rules.specs.declared.Refusal.{Refusal}
use Rattle.rules.specs.declared.Refusal.TheVariants.{SignEnds}
use Rattle.rules.specs.Common.{when◌then◌else◌, between, ends, sees}
use Rattle.rules.specs.NumbersHandedBack.{got, refused}
use Rattle.rules.specs.SettingsAndUnitTable.{SIGN, class, is}
use Rattle.rules.specs.ReadingOnePart.{gap, sign_step}
use Rattle.rules.proofs.Laws.Outcomes.{bind_got, bind_refused}
use Rattle.rules.proofs.Laws.Tests.{eqb_sym}
use Rattle.rules.proofs.Laws.Texts.{sees_here, sees_end}

-- ---- the sign, if there is one: minus or not, and the place after it

unfoldable pub sign_at : List ℕ → ℕ → Signed
sign_at text place = record { negative = sees (eqb 45) text place; next = when sees (is SIGN) text place then place + 1 else place }

no_minus : (b : ℕ) → is SIGN b ≡ false → eqb 45 b ≡ false
unfolding is class between when◌then◌else◌
no_minus b e = go (eqb 45 b) refl
  where
    minus : is SIGN 45 ≡ true
    minus = refl

    go : (c : Bool) → eqb 45 b ≡ c → c ≡ false
    go true f = sym (sym e ∙ ap (is SIGN) (sym (eqb-true 45 b f)) ∙ minus)
    go false f = refl

module _ (text : List ℕ) (place : ℕ) where
  pub sign_ends : length text ≤ place → ◌≡◌ {A = Signed} (record { negative = false; next = place }) (sign_at text place)
  unfolding sign_at when◌then◌else◌
  sign_ends h = rw (sees_end (eqb 45) text place h, sees_end (is SIGN) text place h)

  module _ (h : place < length text) where
    pub sign_none :
        is SIGN (get_or text place 0) ≡ false
        → ◌≡◌ {A = Signed} (record { negative = false; next = place }) (sign_at text place)
    unfolding sign_at when◌then◌else◌
    sign_none e = rw (sees_here (eqb 45) text place h, sees_here (is SIGN) text place h, e, no_minus (get_or text place 0) e)

    pub sign_there :
        is SIGN (get_or text place 0) ≡ true
        → ◌≡◌ {A = Signed} (record { negative = eqb (get_or text place 0) 45; next = place + 1 }) (sign_at text place)
    unfolding sign_at when◌then◌else◌
    sign_there e = rw (sees_here (eqb 45) text place h, sees_here (is SIGN) text place h, e, eqb_sym 45 (get_or text place 0))

  minus_unseen : sees (is SIGN) text place ≡ false → sees (eqb 45) text place ≡ false
  minus_unseen e = go (leb (length text) place) refl
    where
      go : (c : Bool) → leb (length text) place ≡ c → sees (eqb 45) text place ≡ false
      go true f = sees_end (eqb 45) text place (leb-true (length text) place f)
      go false f =
          let h : place < length text = leb-false (length text) place f in
          sees_here (eqb 45) text place h ∙ no_minus _ (sym (sees_here (is SIGN) text place h) ∙ e)

-- ---- the whole step

module _ (s : Settings) (text : List ℕ) (place : ℕ) where
  sign_absent : sees (is SIGN) text place ≡ false → got (record { negative = false; next = place }) ≡ sign_step s text place
  unfolding sign_step when◌then◌else◌
  sign_absent e = rw e

  pub sign_other :
      place < length text
      → is SIGN (get_or text place 0) ≡ false
      → got (record { negative = false; next = place }) ≡ sign_step s text place
  sign_other here e = sign_absent (sees_here (is SIGN) text place here ∙ e)

  module _ {sign : Signed} (at : sign ≡ sign_at text place) where
    seen :
        {b : Bool}
        → sees (is SIGN) text place ≡ b
        → sign ≡ record { negative = sees (eqb 45) text place; next = when b then place + 1 else place }
    unfolding sign_at
    seen e = rw e at at

    pub sign_plain : sign.next ≡ place → got sign ≡ sign_step s text place
    unfolding when◌then◌else◌
    sign_plain h = go (sees (is SIGN) text place) refl
      where
        go : (b : Bool) → sees (is SIGN) text place ≡ b → got sign ≡ sign_step s text place
        go true e = absurd (omega (arith, ap (λ x. x.next) (seen e)))
        go false e = ap got (rw (minus_unseen text place e) at (seen e)) ∙ sign_absent e

    module _ (other : sign.next ≡ place → ⊥) where
      there : sees (is SIGN) text place ≡ true
      unfolding when◌then◌else◌
      there = go (sees (is SIGN) text place) refl
        where
          go : (b : Bool) → sees (is SIGN) text place ≡ b → b ≡ true
          go true e = refl
          go false e = absurd (other (ap (λ x. x.next) (seen e)))

      after : sign.next ≡ place + 1
      unfolding when◌then◌else◌
      after = ap (λ x. x.next) (seen there)

      pub sign_last : length text ≤ sign.next → refused (SignEnds sign.next) ≡ sign_step s text place
      unfolding sign_step ends when◌then◌else◌
      sign_last h = rw (after, there, le-leb (length text) (place + 1) (rw after at h))

      module _ (h : sign.next < length text) {on : Bool} (a : s.after_sign ≡ on) where
        more : place + 1 < length text
        more = rw after at h

        switched : gap s.after_sign s text (place + 1) ≡ gap on s text sign.next
        switched = rw (after, a)

        pub sign_got :
            {next : ℕ}
            → gap on s text sign.next ≡ got next
            → got (record { negative = sign.negative; next = next }) ≡ sign_step s text place
        unfolding sign_step ends when◌then◌else◌
        sign_got g =
            rw (ap (λ x. x.negative) (seen there), there, lt-leb (length text) (place + 1) more, bind_got _ (switched ∙ g))

        pub sign_refused : {cause : Refusal} → gap on s text sign.next ≡ refused cause → refused cause ≡ sign_step s text place
        unfolding sign_step ends when◌then◌else◌
        sign_refused g = rw (there, lt-leb (length text) (place + 1) more, bind_refused _ (switched ∙ g))
