-- What bytes spell a title or a user name, from the tests that a reading makes.
use Rattle.std.proofs.Common.{◌≡◌, ℕ, List, true, ◌&&◌, Some, None, ap, ◌∙◌}
use Rattle.std.specs.Prelude.{if◌then◌else◌}
use Rattle.std.specs.Str.{IsUtf8, is_utf8}
use Rattle.std.proofs.lemmas.Bool.{false_from_ne_true}
use Rattle.std.proofs.lemmas.Str.{IsUtf8-from_is_utf8, is_utf8-from_IsUtf8}
use Rattle.rl_names.specs.Title.{spaced, is_title, is_user_name, title_of, user_name_of}

pub no_title : (bytes : List ℕ) → ¬ (IsUtf8 bytes) → title_of bytes ≡ None
no_title bytes bad = ap (λ b. if b && is_title (spaced bytes) then Some (spaced bytes) else None)
    (false_from_ne_true (is_utf8 bytes) (λ e. bad (IsUtf8-from_is_utf8 bytes e)))

pub title_spelt : (bytes text : List ℕ) → IsUtf8 bytes → spaced bytes ≡ text → is_title text ≡ true → title_of bytes ≡ Some text
title_spelt bytes text utf8 e h =
    ap (λ b. if b && is_title (spaced bytes) then Some (spaced bytes) else None) (is_utf8-from_IsUtf8 bytes utf8)
    ∙ ap (λ t. if is_title t then Some t else None) e
    ∙ ap (λ b. if b then Some text else None) h

pub no_user_name : (bytes : List ℕ) → ¬ (IsUtf8 bytes) → user_name_of bytes ≡ None
no_user_name bytes bad = ap (λ b. if b && is_user_name (spaced bytes) then Some (spaced bytes) else None)
    (false_from_ne_true (is_utf8 bytes) (λ e. bad (IsUtf8-from_is_utf8 bytes e)))

pub user_name_spelt : (bytes text : List ℕ) → IsUtf8 bytes → spaced bytes ≡ text → is_user_name text ≡ true → user_name_of bytes ≡ Some text
user_name_spelt bytes text utf8 e h =
    ap (λ b. if b && is_user_name (spaced bytes) then Some (spaced bytes) else None) (is_utf8-from_IsUtf8 bytes utf8)
    ∙ ap (λ t. if is_user_name t then Some t else None) e
    ∙ ap (λ b. if b then Some text else None) h
