-- Connections, by computation: what their bytes decide, and the replies.
use Rattle.std.proofs.Common.{◌≡◌, ℕ, true, false, List, [], ◌∷◌, Some, codes, refl}
use Rattle.std.specs.Str.{is_utf8, chars}
use Rattle.std.specs.Char.{encode_utf8}
use Rattle.std.specs.Fmt.{digits}
use Rattle.std.specs.Str.Lossy.{utf8_valid_len, utf8_error_len, utf8_lossy}
use Rattle.percent_encoding.specs.Percent.{percent_decode}
use Rattle.form_urlencoded.specs.Form.{split, raw_pairs}
use Rattle.httparse.specs.Grammar.{RequestHead, crlf, is_token_byte}
use Rattle.httparse.proofs.OnLiterals.{httparse_on_literals}
use Rattle.httparse.proofs.PieceLemmas.{space_ends_token}
use Rattle.http_talk.specs.Requests.{line}
use Rattle.series_select.specs.SelectorReading.{sign_at, matcher_at, matchers_at, braced, rest_of, bare_selector, selector_in}
use Rattle.series_select.proofs.Laws.{none_told, selector_sound}
use Rattle.page_server.specs.declared.asked.Asked.TheVariants as asks
use Rattle.page_server.specs.declared.status.ReplyStatus.TheVariants as statuses
use Rattle.page_server.specs.RequestHeads.{waiting, RequestIs}
use Rattle.page_server.specs.Serving.{BytesAsk, path_of, query_of, first_lines, reply_head, served_text}
use Rattle.page_server.proofs.RequestTrees.{by_request, by_begun, by_over, over_method, never_begun}
use Rattle.page_server.proofs.Targets.{other_word}
use Rattle.page_server.proofs.AskedLaws.{bad_at_end}

-- a head of this method and this target, with one field
abbrev head_of : List ℕ → List ℕ → RequestHead
head_of method target = record {
  blank = [];
  method = method;
  target = target;
  minor = 1;
  line_end = crlf;
  fields = record { name = codes "Host"; raw = codes " a"; end = crlf } ∷ [];
  last = crlf;
}

-- ---- requests

the_page : BytesAsk (codes "GET /federate HTTP/1.1\r\nHost: a\r\n\r\n") false (asks.Page [])
unfolding httparse_on_literals is_utf8 chars encode_utf8 path_of query_of split raw_pairs
the_page = by_request _ (head_of (codes "GET") (codes "/federate")) [] _ refl refl refl refl (refl, refl, tt)

-- a query without selectors
another_pair : BytesAsk (codes "GET /federate?x HTTP/1.1\r\nHost: a\r\n\r\n") false (asks.Page [])
unfolding httparse_on_literals is_utf8 chars encode_utf8 path_of query_of split raw_pairs percent_decode utf8_valid_len utf8_error_len utf8_lossy sign_at matcher_at matchers_at braced rest_of bare_selector selector_in
another_pair = by_request _ (head_of (codes "GET") (codes "/federate?x")) [] _ refl refl refl refl (refl, refl, tt)

-- a query with one
up_alone : BytesAsk (codes "GET /federate?match[]=up HTTP/1.1\r\nHost: a\r\n\r\n") false (asks.Page (record { name = Some (codes "up"); matchers = [] } ∷ []))
unfolding httparse_on_literals is_utf8 chars encode_utf8 path_of query_of split raw_pairs percent_decode utf8_valid_len utf8_error_len utf8_lossy sign_at matcher_at matchers_at braced rest_of bare_selector selector_in
up_alone =
    by_request _ (head_of (codes "GET") (codes "/federate?match[]=up")) [] _ refl refl refl refl
    (refl, refl, (selector_sound (codes "up") (record { name = Some (codes "up"); matchers = [] }) refl, tt))

-- a selector that is none, percent-encoded
a_brace : BytesAsk (codes "GET /federate?match%5B%5D=%7B HTTP/1.1\r\nHost: a\r\n\r\n") false asks.BadRequest
unfolding httparse_on_literals is_utf8 chars encode_utf8 path_of query_of split raw_pairs percent_decode utf8_valid_len utf8_error_len utf8_lossy sign_at matcher_at matchers_at braced rest_of bare_selector selector_in
a_brace =
    by_request _ (head_of (codes "GET") (codes "/federate?match%5B%5D=%7B")) [] _ refl refl refl refl
    (refl, refl, (1, record { front = []; text = codes "{"; rest = []; whole = refl; count = refl; selectors = ([], tt); other = none_told (codes "{") refl }))

a_post : BytesAsk (codes "POST /federate?match[]=%7B HTTP/1.1\r\nHost: a\r\n\r\nx 1\n") false asks.NotAllowed
unfolding httparse_on_literals is_utf8 chars encode_utf8
a_post = by_request _ (head_of (codes "POST") (codes "/federate?match[]=%7B")) (codes "x 1\n") _ refl refl refl refl (other_word (codes "POST") (codes "GET") false refl refl)

another_target : BytesAsk (codes "GET /x?match[]=%7B HTTP/1.1\r\nHost: a\r\n\r\n") false asks.NotFound
unfolding httparse_on_literals is_utf8 chars encode_utf8 path_of
another_target = by_request _ (head_of (codes "GET") (codes "/x?match[]=%7B")) [] _ refl refl refl refl (refl, other_word (codes "/x") (codes "/federate") false refl refl)

another_method_in_small_letters : BytesAsk (codes "get /federate HTTP/1.1\r\nHost: a\r\n\r\n") false asks.NotAllowed
unfolding httparse_on_literals is_utf8 chars encode_utf8
another_method_in_small_letters = by_request _ (head_of (codes "get") (codes "/federate")) [] _ refl refl refl refl (other_word (codes "get") (codes "GET") false refl refl)

-- nothing is decided by a method alone, unless the end comes
a_method : RequestIs (codes "GET") waiting
unfolding httparse_on_literals is_utf8 chars encode_utf8
a_method = by_begun _ 32 (codes "/federate HTTP/1.1\r\nHost: a\r\n\r\n") (head_of (codes "GET") (codes "/federate")) refl refl refl

a_method_and_the_end : BytesAsk (codes "GET") true asks.BadRequest
a_method_and_the_end = bad_at_end (codes "GET") a_method

-- nothing is decided before the last line feed
no_last_feed : RequestIs (codes "GET /federate HTTP/1.1\r\nHost: a\r\n\r") waiting
unfolding httparse_on_literals is_utf8 chars encode_utf8
no_last_feed = by_begun _ 10 [] (head_of (codes "GET") (codes "/federate")) refl refl refl

-- a byte that no method begins with decides at once
a_space_first : BytesAsk (codes " GET") false asks.BadRequest
unfolding httparse_on_literals
a_space_first = by_over _ (over_method _ [] (codes " GET") refl refl (never_begun is_token_byte 32 space_ends_token 32 (codes "GET") refl))

-- ---- replies

the_page_of_nothing : served_text statuses.Page (codes "# EOF\n") ≡ codes "HTTP/1.1 200 OK\r\nContent-Type: application/openmetrics-text; version=1.0.0; charset=utf-8\r\nContent-Length: 6\r\nConnection: close\r\n\r\n# EOF\n"
unfolding reply_head first_lines line digits
the_page_of_nothing = refl

the_reply_to_a_bad_request : served_text statuses.BadRequest [] ≡ codes "HTTP/1.1 400 Bad Request\r\nContent-Length: 0\r\nConnection: close\r\n\r\n"
unfolding reply_head first_lines line digits
the_reply_to_a_bad_request = refl

the_reply_to_another_target : served_text statuses.NotFound [] ≡ codes "HTTP/1.1 404 Not Found\r\nContent-Length: 0\r\nConnection: close\r\n\r\n"
unfolding reply_head first_lines line digits
the_reply_to_another_target = refl

the_reply_to_another_method : served_text statuses.NotAllowed [] ≡ codes "HTTP/1.1 405 Method Not Allowed\r\nAllow: GET\r\nContent-Length: 0\r\nConnection: close\r\n\r\n"
unfolding reply_head first_lines line digits
the_reply_to_another_method = refl
