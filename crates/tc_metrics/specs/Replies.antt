-- What is replied to a request. Source: HTTP/1.1 (RFC 9110 and 9112): a status line, header lines, an empty line, the text.
use Rattle.std.specs.Prelude.{ℕ, Bool, not, ◌||◌, if◌then◌else◌, List, [], ◌++◌, codes, decimal, length, take}
use Rattle.std.specs.Str.{bytes_eq}
use Rattle.tc_metrics.specs.declared.request.Answer.{Answer}
use Rattle.tc_metrics.specs.declared.request.Answer.TheVariants.{Told, Headed, Malformed, NotFound, NotAllowed, TooLong, Refused}

-- the number and the words of an answer's status
abbrev pub status_of : Answer → List ℕ
status_of Told = codes "200 OK"
status_of Headed = codes "200 OK"
status_of Malformed = codes "400 Bad Request"
status_of NotFound = codes "404 Not Found"
status_of NotAllowed = codes "405 Method Not Allowed"
status_of TooLong = codes "431 Request Header Fields Too Large"
status_of Refused = codes "503 Service Unavailable"

-- the metrics are asked for: by their path, with a query or without
abbrev pub is_metrics : List ℕ → Bool
is_metrics target = bytes_eq target (codes "/metrics") || bytes_eq (codes "/metrics?") (take 9 target)

-- how a request for this target by this method is answered: `GET /metrics` is told, `HEAD /metrics` without the text
abbrev pub answer_to : List ℕ → List ℕ → Answer
answer_to method target =
    if not (is_metrics target) then NotFound
    else if bytes_eq method (codes "GET") then Told
    else if bytes_eq method (codes "HEAD") then Headed
    else NotAllowed

-- a reply's first line
unfoldable pub status_line : Answer → List ℕ
status_line answer = codes "HTTP/1.1 " ++ (status_of answer ++ codes "\r\n")

-- the lines that each reply has, up to the length of its text
unfoldable pub common_lines : List ℕ
common_lines = codes "Content-Type: text/plain; version=0.0.4\r\nAllow: GET, HEAD\r\nConnection: close\r\nContent-Length: "

-- its other lines, with the length of the text, and the empty line
unfoldable pub header_lines : ℕ → List ℕ
header_lines count = common_lines ++ (decimal count ++ codes "\r\n\r\n")

-- the text that is sent: none where its head alone was asked for
abbrev pub body_of : Answer → List ℕ → List ℕ
body_of Headed text = []
body_of other text = text

-- a reply: its lines, and the text; the connection ends behind it
unfoldable pub reply_of : Answer → List ℕ → List ℕ
reply_of answer text = status_line answer ++ (header_lines (length text) ++ body_of answer text)
