-- Worked rows: what machines show that runs handed back at a ?HALT.
use Rattle.std.specs.Prelude.{true, ◌+◌, ◌*◌, ◌^◌, List, [], ◌∷◌, ◌++◌, replicate, None}
use Rattle.b67_word.specs.Tagged.{Tagged, word}
use Rattle.b67_model.specs.Common.{Operand, Name, Ref, Element, Original, Proc, Marked, Entered, Ready, Awaits, Task, Session}
use Rattle.b67_model.specs.Words as Words
use Rattle.b67_layout.specs.Rows.{IsReady, AwaitsTask}
use Rattle.b67_layout_shown.specs.Shown.{Sight}

-- Outer LT8 7 / MKST / NAMC 0,8 / LT8 3 / ENTR / NAMC 2,3 / ONE / INDX / MKST / NAMC 2,2 / STFF / EXIT with ?HALT 11
abbrev pub halted_core : List Tagged
halted_core =
    (word 3 70368744177664 ∷ [])
    ++ ((replicate 7 (word 0 0))
    ++ ((word 7 524296 ∷ word 7 524297 ∷ word 7 524298 ∷ word 7 524299 ∷ word 7 524300 ∷ word 7 524301 ∷ word 7 524302 ∷ word 7 524303 ∷ word 7 524304 ∷ word 7 524305 ∷ word 7 524306 ∷ [])
    ++ ((replicate 13 (word 0 0))
    ++ ((word 3 140668768944128 ∷ [])
    ++ ((replicate 119 (word 0 0))
    ++ ((word 3 232 ∷ [])
    ++ ((replicate 7 (word 0 0))
    ++ ((word 3 220452081385472 ∷ word 0 1 ∷ word 3 140737491501284 ∷ word 3 2129921 ∷ word 3 219902325587968 ∷ word 3 0 ∷ word 0 7 ∷ word 5 3145728 ∷ word 5 105553117315239 ∷ word 3 5 ∷ word 1 70368745226242 ∷ [])
    ++ ((replicate 56 (word 0 0))
    ++ ((word 3 140737491501218 ∷ word 3 195746057947314 ∷ word 3 4034316710310 ∷ word 3 191658665681919 ∷ word 3 3145729 ∷ word 3 211106723266560 ∷ [])
    ++ (replicate 467 (word 0 0))))))))))))

abbrev pub halted : Sight
halted = record {
  core = halted_core;
  regs = record { s = 170; f = 169; bosr = 163; losr = 226; slot = 0; level = 2; segment = 2; place = record { word = 2; syllable = 4 }; dict = 160; entries = 1; stacks = 163; stack_size = 64; peak = 1 };
  tasks = record { job = 1; number = 1; slot = 0; parent = 255; critical = 0; state = IsReady; segment = 2; place = record { word = 0; syllable = 0 } } ∷ [];
  jobs = record { dictionary = 160; segments = 1; rows = 0; limit = 1000000; made = 11; next_task = 2; numbers = []; next_number = 0 } ∷ [];
  counts = record { quantum = 1000; made = 11; turn = 11; last_job = 1; last_number = 1; switches = []; next_switch = 0; running = 0 };
}

-- the array of three words was never touched: it is nowhere, and all zero
abbrev pub halted_session : Session
halted_session = record {
  jobs = record {
    constants = record {
      number = 1;
      stack_size = 64;
      limit = 1000000;
      segments = record { level = 0; entries = []; code = 195746057947314 ∷ 4034316710310 ∷ 191658665681919 ∷ [] } ∷ [];
      dictionary = record { identity = 1; standing = Entered 1 0 None; cells = Words.Segment 1 ∷ [] };
    };
    progress = record {
      job = record {
        arrays = record { identity = 0x4004; owner = 0x4001; writable = true; numbers = 0 ∷ 0 ∷ 0 ∷ [] } ∷ [];
        tasks = record {
          number = 1;
          parents = [];
          critical = 0;
          frames = record { identity = 0x4006; standing = Marked; cells = Ref 0x4001 2 ∷ [] }
              ∷ record { identity = 0x4001; standing = Entered 2 1 None; cells = Element 0x4004 1 ∷ Original 0x4004 ∷ Operand 7 ∷ [] } ∷ [];
          segment = 1;
          place = record { word = 2; syllable = 4 };
          condition = Ready;
        } ∷ [];
        numbers = [];
        next_task = 2;
        next_frame = 3 * 2 ^ 14 + 0;
        next_array = 3 * 2 ^ 14 + 0;
      };
      made = 11;
      ended = [];
    };
  } ∷ [];
  made = 11;
  last = record { job = 1; task = 1 };
  turn = 11;
  switches = [];
  quantum = 1000;
  peak = 1;
}

-- EIGHT over 910 words of core, with ?HALT 100: the parent awaits the child
abbrev pub eight_core : List Tagged
eight_core =
    (word 3 70368744177664 ∷ [])
    ++ ((replicate 7 (word 0 0))
    ++ ((word 7 524296 ∷ word 7 524297 ∷ word 7 524298 ∷ word 7 524299 ∷ word 7 524300 ∷ word 7 524301 ∷ word 7 524302 ∷ word 7 524303 ∷ word 7 524304 ∷ word 7 524305 ∷ word 7 524306 ∷ [])
    ++ ((replicate 13 (word 0 0))
    ++ ((word 3 140668768944128 ∷ word 3 70368744243200 ∷ [])
    ++ ((replicate 118 (word 0 0))
    ++ ((word 3 728 ∷ [])
    ++ ((replicate 7 (word 0 0))
    ++ ((word 3 220452081385472 ∷ word 0 2 ∷ word 3 140737519813285 ∷ word 3 140737507230405 ∷ word 3 24150037 ∷ word 3 219902325587968 ∷ word 3 0 ∷ word 7 49155 ∷ word 5 209715203 ∷ word 5 209715252 ∷ word 5 209715210 ∷ word 5 209715217 ∷ word 5 209715224 ∷ word 5 209715231 ∷ word 5 209715238 ∷ word 5 209715245 ∷ word 5 105553116266664 ∷ word 5 105553117315241 ∷ word 5 105553118363818 ∷ word 5 105553119412395 ∷ word 5 105553120460972 ∷ word 5 105553121509549 ∷ word 5 105553122558126 ∷ word 5 105553123606703 ∷ word 0 2 ∷ word 3 20 ∷ word 1 13 ∷ word 0 2 ∷ [])
    ++ ((replicate 232 (word 0 0))
    ++ ((word 3 2146305 ∷ word 3 211106233630720 ∷ word 3 0 ∷ word 5 105553116266664 ∷ word 5 105553117315241 ∷ word 5 105553118363818 ∷ word 1 4102 ∷ word 0 3 ∷ word 3 191590047074475 ∷ word 3 191590047074475 ∷ word 3 191590047074475 ∷ word 3 87976801510992 ∷ word 3 5162578366469 ∷ word 3 195724449941170 ∷ word 3 4012842136068 ∷ word 3 182862673479078 ∷ word 3 88002571707984 ∷ word 3 11759748821515 ∷ word 3 88011273538640 ∷ word 3 13987400732685 ∷ word 3 203074883817144 ∷ word 3 195778837461170 ∷ word 3 17936063967761 ∷ word 3 88037043343952 ∷ word 3 20584406715472 ∷ word 3 2936386096400 ∷ word 3 21628083767568 ∷ word 3 12163557101581 ∷ word 3 140806451105807 ∷ word 3 140806484660241 ∷ word 3 140806518254499 ∷ word 3 31457281 ∷ word 3 209715375 ∷ [])
    ++ ((replicate 7 (word 0 0))
    ++ ((word 0 18 ∷ [])
    ++ ((replicate 192 (word 0 0))
    ++ ((word 3 209715200 ∷ word 3 209715369 ∷ word 0 0 ∷ word 0 12 ∷ [])
    ++ ((replicate 19 (word 0 0))
    ++ ((word 3 140737519812770 ∷ word 3 211106232532991 ∷ word 3 49155 ∷ [])
    ++ ((replicate 8 (word 3 191590047074475))
    ++ ((word 3 87976801510992 ∷ word 3 5162578366469 ∷ word 3 195724449941170 ∷ word 3 4012842136068 ∷ word 3 182862673479078 ∷ word 3 88002571707984 ∷ word 3 11759748821515 ∷ word 3 88011273538640 ∷ word 3 13987400732685 ∷ word 3 203074883817144 ∷ word 3 195778837461170 ∷ word 3 17936063967761 ∷ word 3 88037043343952 ∷ word 3 20584406715472 ∷ word 3 2936386096400 ∷ word 3 21628083767568 ∷ word 3 12163557101581 ∷ word 3 140806451105807 ∷ word 3 140806484660241 ∷ word 3 140806518254499 ∷ word 3 31457281 ∷ word 3 140737507229859 ∷ word 3 87976801510992 ∷ word 3 5162578366469 ∷ word 3 195724449941170 ∷ word 3 4012842136068 ∷ word 3 182862673479078 ∷ word 3 88002571707984 ∷ word 3 11759748788226 ∷ word 3 196144721298104 ∷ word 3 52792435966064 ∷ word 3 4089614479972 ∷ word 3 141218603872261 ∷ word 3 196144721298872 ∷ word 3 52805320867952 ∷ word 3 7388149559908 ∷ word 3 141218654203912 ∷ word 3 196144721299640 ∷ word 3 52818205769840 ∷ word 3 10688630095871 ∷ word 3 18874370 ∷ word 3 211106423373824 ∷ [])
    ++ ((replicate 126 (word 0 0))
    ++ ((word 3 209715200 ∷ word 3 211106289156096 ∷ [])
    ++ (replicate 53 (word 0 0))))))))))))))))))))))

abbrev pub eight : Sight
eight = record {
  core = eight_core;
  regs = record { s = 427; f = 421; bosr = 420; losr = 675; slot = 1; level = 3; segment = 3; place = record { word = 3; syllable = 1 }; dict = 160; entries = 2; stacks = 164; stack_size = 256; peak = 2 };
  tasks = record { job = 1; number = 1; slot = 0; parent = 255; critical = 0; state = AwaitsTask 2; segment = 2; place = record { word = 25; syllable = 1 } } ∷ record { job = 1; number = 2; slot = 1; parent = 0; critical = 1; state = IsReady; segment = 3; place = record { word = 0; syllable = 0 } } ∷ [];
  jobs = record { dictionary = 160; segments = 2; rows = 0; limit = 1000000; made = 100; next_task = 3; numbers = []; next_number = 0 } ∷ [];
  counts = record { quantum = 1000; made = 100; turn = 11; last_job = 1; last_number = 2; switches = []; next_switch = 0; running = 1 };
}

-- the child has copies of its parent's arrays, and its static link leads to the parent's record
abbrev pub eight_tasks : List Task
eight_tasks =
    record {
      number = 2;
      parents = 1 ∷ [];
      critical = 0x4001;
      frames = record { identity = 0x8001; standing = Entered 3 0x4001 None; cells = Operand 3 ∷ Name 4102 ∷ Element 0x4006 2 ∷ Element 0x4005 1 ∷ Element 0x4004 0 ∷ [] } ∷ [];
      segment = 2;
      place = record { word = 3; syllable = 1 };
      condition = Ready;
    }
    ∷ record {
      number = 1;
      parents = [];
      critical = 0;
      frames = record { identity = 0x4015; standing = Marked; cells = Operand 2 ∷ Name 13 ∷ [] }
          ∷ record {
            identity = 0x4001;
            standing = Entered 2 1 None;
            cells = Operand 2 ∷ Element 0x400b 7 ∷ Element 0x400a 6 ∷ Element 0x4009 5 ∷ Element 0x4008 4 ∷ Element 0x4007 3 ∷ Element 0x4006 2 ∷ Element 0x4005 1 ∷ Element 0x4004 0
                ∷ Original 0x400b ∷ Original 0x400a ∷ Original 0x4009 ∷ Original 0x4008 ∷ Original 0x4007 ∷ Original 0x4006 ∷ Original 0x4005 ∷ Original 0x4004 ∷ Proc 2 3 (record { word = 0; syllable = 0 }) ∷ [];
          } ∷ [];
      segment = 1;
      place = record { word = 25; syllable = 1 };
      condition = Awaits 2;
    } ∷ []
