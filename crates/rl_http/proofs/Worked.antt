-- Worked examples: a plain request, and edits.
use Rattle.std.proofs.Common.{◌≡◌, ℕ, List, [], ◌∷◌, true, false, Ok, Err, refl}
use Rattle.std.specs.Prelude.{codes}
use Rattle.std.specs.Fmt.{digits}
use Rattle.std.specs.Str.{is_utf8, chars}
use lib.Utf8.{encode}
use Rattle.httparse.specs.Grammar.{RequestHead, Field, crlf, print_request, trim_ows}
use Rattle.httparse.proofs.OnLiterals.{httparse_on_literals}
use Rattle.rl_loadphp.specs.declared.answers.Kind.TheVariants.{Script}
use Rattle.rl_http.specs.declared.refusals.Refusal.TheVariants.{Conflict, NotFound}
use Rattle.rl_http.specs.declared.routes.Route.TheVariants as route
use Rattle.rl_http.specs.Answers.{loaded_text, refused_text, revision_text}
use Rattle.rl_http.specs.Heads.{head_of}
use Rattle.rl_http.specs.Routes.{route_of, target_parts}

abbrev field : List ℕ → List ℕ → Field
field name value = record { name = name; raw = 32 ∷ value; end = crlf }

abbrev request : List ℕ → List ℕ → List Field → RequestHead
request method target fields =
    record { blank = []; method = method; target = target; minor = 1; line_end = crlf; fields = fields; last = crlf }

abbrev plain : RequestHead
plain = request (codes "GET") (codes "/load.php?modules=zz") (field (codes "Host") (codes "w") ∷ [])

plain_bytes : print_request plain ≡ codes "GET /load.php?modules=zz HTTP/1.1\r\nHost: w\r\n\r\n"
unfolding httparse_on_literals
plain_bytes = refl

plain_said : head_of plain ≡ Ok record { method = codes "GET"; target = codes "/load.php?modules=zz"; viewer = []; length = 0; last = false }
unfolding trim_ows
plain_said = refl

plain_answer : loaded_text record { body = codes "mw.loader.state({\"zz\":\"missing\"});\n"; kind = Script; max_age = 300; private = false }
    ≡ codes "HTTP/1.1 200 OK\r\nContent-Type: text/javascript; charset=utf-8\r\nCache-Control: public, max-age=300\r\nContent-Length: 35\r\n\r\nmw.loader.state({\"zz\":\"missing\"});\n"
unfolding digits
plain_answer = refl

not_found_answer : refused_text NotFound ≡ codes "HTTP/1.1 404 Not Found\r\nContent-Type: text/plain\r\nContent-Length: 10\r\n\r\nnot found\n"
unfolding digits
not_found_answer = refl

edit_answers : revision_text 1 ≡ codes "HTTP/1.1 200 OK\r\nContent-Type: application/json\r\nContent-Length: 14\r\n\r\n{\"revision\":1}"
unfolding digits
edit_answers = refl

conflict_answer : refused_text (Conflict 1) ≡ codes "HTTP/1.1 409 Conflict\r\nContent-Type: text/plain\r\nContent-Length: 11\r\n\r\nconflict 1\n"
unfolding digits
conflict_answer = refl

by_root : head_of (request (codes "POST") (codes "/edit") (field (codes "X-WIKI-USER") (codes "Root")
    ∷ field (codes "Content-Length") (codes "24") ∷ field (codes "connection") (codes "keep-alive , CLOSE") ∷ []))
    ≡ Ok record { method = codes "POST"; target = codes "/edit"; viewer = codes "Root"; length = 24; last = true }
unfolding trim_ows is_utf8 chars encode
by_root = refl

coded : head_of (request (codes "POST") (codes "/edit") (field (codes "Content-Length") (codes "9999999999999999999999")
    ∷ field (codes "transfer-encoding") (codes "chunked") ∷ [])) ≡ Err 400
unfolding trim_ows
coded = refl

too_long : head_of (request (codes "POST") (codes "/edit") (field (codes "x-wiki-user") (codes "a|b")
    ∷ field (codes "Content-Length") (codes "8388609") ∷ [])) ≡ Err 413
unfolding trim_ows is_utf8 chars encode
too_long = refl

twice : head_of (request (codes "POST") (codes "/edit") (field (codes "content-length") (codes "1")
    ∷ field (codes "Content-Length") (codes "1") ∷ [])) ≡ Err 400
unfolding trim_ows
twice = refl

routed : target_parts (codes "/load.php?modules=zz?") ≡ (codes "/load.php", codes "modules=zz?")
routed = refl

get_edit : route_of (codes "GET") (codes "/edit") ≡ route.NotAllowed
get_edit = refl
