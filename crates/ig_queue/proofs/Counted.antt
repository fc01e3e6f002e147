-- Names in a listing are counted one by one.
use Rattle.std.proofs.Common.{arith, ◌≡◌, ◌≤◌, ◌<◌, ◌+◌, ℕ, suc, Bool, cond, List, [], ◌∷◌, ◌++◌, Option, None, Some, count_by, length, take, get_or, refl, ap, sym, subst, ◌∙◌}
use Rattle.std.proofs.lemmas.List.{append-nil, length-append, length-take, take_more}
use Rattle.std.proofs.lemmas.List.Elements.{filter_map-append}
use Rattle.std.proofs.lemmas.List.Sums.{count_by-le-length, sum_by-append}
use Rattle.std.specs.List.{cons_option}
use Rattle.ig_defs.specs.declared.queue_name.QueueName.{QueueName}
use Rattle.ig_queue.specs.Progress.{may_be_leased, name_in, names_in}

-- these are the numbers of the names in a listing, and of those of them that may be leased
pub record AreCounted (listing : List (List ℕ)) (now listed visible : ℕ) : Type 0 where
  pub listed_is : listed ≡ length (names_in listing)
  pub visible_is : visible ≡ count_by (may_be_leased now) (names_in listing)

pub none_counted : (now : ℕ) → AreCounted [] now 0 0
none_counted now = record { listed_is = refl; visible_is = refl }

-- one text more, which is a name, or is none
with_name : (listing : List (List ℕ)) (text : List ℕ) (found : Option QueueName) → found ≡ name_in text → names_in (listing ++ text ∷ []) ≡ names_in listing ++ cons_option found []
with_name listing text found is = filter_map-append name_in listing (text ∷ []) ∙ ap (λ o. names_in listing ++ cons_option o []) (sym is)

counted_one : (p : QueueName → Bool) (names : List QueueName) (name : QueueName) → count_by p (names ++ name ∷ []) ≡ count_by p names + cond (p name) 1 0
counted_one p names name = sum_by-append (λ x. cond (p x) 1 0) names (name ∷ []) ∙ omega arith

module _ (listing : List (List ℕ)) (text : List ℕ) (now listed visible count due : ℕ) (so_far : AreCounted listing now listed visible) where
  pub none_more : None ≡ name_in text → count ≡ listed → due ≡ visible → AreCounted (listing ++ text ∷ []) now count due
  none_more is same still =
      let all : names_in listing ≡ names_in (listing ++ text ∷ []) = sym (with_name listing text None is ∙ append-nil (names_in listing)) in
      record { listed_is = same ∙ so_far.listed_is ∙ ap length all; visible_is = still ∙ so_far.visible_is ∙ ap (count_by (may_be_leased now)) all }

  pub one_more : (name : QueueName) (may : Bool) → Some name ≡ name_in text → may_be_leased now name ≡ may → count ≡ listed + 1 → due ≡ visible + cond may 1 0
      → AreCounted (listing ++ text ∷ []) now count due
  one_more name may is by grown more =
      let all : names_in (listing ++ text ∷ []) ≡ names_in listing ++ name ∷ [] = with_name listing text (Some name) is in
      record {
        listed_is = grown ∙ ap (λ n. n + 1) so_far.listed_is ∙ sym (ap length all ∙ length-append (names_in listing) (name ∷ []));
        visible_is = more ∙ ap (λ n. n + cond may 1 0) so_far.visible_is ∙ ap (λ b. count_by (may_be_leased now) (names_in listing) + cond b 1 0) (sym by)
            ∙ sym (ap (count_by (may_be_leased now)) all ∙ counted_one (may_be_leased now) (names_in listing) name);
      }

-- ---- there are not more names than texts
few_more : (found : Option QueueName) (names : List QueueName) (n : ℕ) → length names ≤ n → length (cons_option found names) ≤ suc n
few_more None names n few = omega (arith, few)
few_more (Some name) names n few = omega (arith, few)

few_names : (listing : List (List ℕ)) → length (names_in listing) ≤ length listing
few_names [] = omega arith
few_names (text ∷ listing) = few_more (name_in text) (names_in listing) (length listing) (few_names listing)

-- so many texts from the front
module _ (listing : List (List ℕ)) (k now listed visible : ℕ) (so_far : AreCounted (take k listing) now listed visible) where
  pub few_listed : listed ≤ k
  few_listed = omega (arith, so_far.listed_is, few_names (take k listing), length-take k listing)

  pub few_visible : visible ≤ k
  few_visible = omega (arith, few_listed, so_far.listed_is, so_far.visible_is, count_by-le-length (may_be_leased now) (names_in (take k listing)))

-- one text more from the front
pub front_more : (listing : List (List ℕ)) (k now listed visible : ℕ) (text : List ℕ) → k < length listing → text ≡ get_or listing k text
    → AreCounted (take k listing ++ text ∷ []) now listed visible → AreCounted (take (k + 1) listing) now listed visible
front_more listing k now listed visible text below is so =
    subst (λ front. AreCounted front now listed visible) (ap (λ last. take k listing ++ last ∷ []) is ∙ sym (take_more listing k text below)) so
