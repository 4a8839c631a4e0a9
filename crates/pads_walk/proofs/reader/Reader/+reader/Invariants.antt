use Rattle.std.proofs.Common.{◌≡◌, ◌+◌, ◌-◌, ◌*◌, ◌≤◌, List, length, map, take, drop, [], vec_len, vec_capacity}
use denote.Param.Weighed.{most}
use Rattle.pads_calc.specs.declared.term.Arm.{size-Arm}
use Rattle.pads_calc.specs.declared.term.Case.{size-Case}
use Rattle.pads_calc.specs.declared.term.Part.{size-Part}
use Rattle.pads_calc.specs.declared.term.Seq.{size-Seq}
use Rattle.pads_calc.specs.declared.term.Term.{size-Term}
use Rattle.pads_calc.specs.Arrays.{elements, turns_from}
use Rattle.pads_calc.specs.Choices.{alt_from}
use Rattle.pads_steps.specs.Records.{subject_of}
use Rattle.pads_calc.specs.Structs.{in_turn}
use Rattle.pads_calc.specs.Wrappers.{scan, scan_from}
use Rattle.pads_calc.proofs.Elements.{Kept}
use Rattle.pads_calc.proofs.Runs.{Follows}
use Rattle.pads_walk.specs.Fields.{Done, parts_of, values_of, kept_of, env_of}
use Rattle.pads_walk.specs.Reads.{reads, reads_part, reads_arm, reads_seq}
use Rattle.pads_steps.proofs.Weights.{weight}
use Rattle.pads_walk.proofs.reader.Reader.+reader.Given as goal

abbrev pub decreases-read : goal.decreases-read
decreases-read l = l.depth * weight l.self.now.decls.now + 4 * size-Term l.term.now

abbrev pub decreases-read_part : goal.decreases-read_part
decreases-read_part l = l.depth * weight l.self.now.decls.now + (4 * size-Term l.term.now + 1)

abbrev pub decreases-read_struct : goal.decreases-read_struct
decreases-read_struct l = l.depth * weight l.self.now.decls.now + (4 * most size-Part l.parts.now + 2)

abbrev pub decreases-read_alt : goal.decreases-read_alt
decreases-read_alt l = l.depth * weight l.self.now.decls.now + (4 * most size-Arm l.arms.now + 1)

abbrev pub decreases-read_switch : goal.decreases-read_switch
decreases-read_switch l = l.depth * weight l.self.now.decls.now + (4 * most size-Case l.cases.now + 1)

abbrev pub decreases-read_seq : goal.decreases-read_seq
decreases-read_seq l = l.depth * weight l.self.now.decls.now + (4 * size-Seq l.seq.now + 3)

abbrev pub decreases-turn : goal.decreases-turn
decreases-turn l = l.depth * weight l.self.now.decls.now + (4 * size-Seq l.seq.now + 2)

abbrev pub decreases-ending : goal.decreases-ending
decreases-ending l = l.depth * weight l.self.now.decls.now + (4 * size-Seq l.seq.now + 2)

abbrev pub decreases-stops : goal.decreases-stops
decreases-stops l = l.depth * weight l.self.now.decls.now + (4 * size-Seq l.seq.now + 1)

abbrev pub decreases-element_at : goal.decreases-element_at
decreases-element_at l = l.depth * weight l.self.now.decls.now + (4 * size-Seq l.seq.now + 1)

abbrev pub decreases-read_call : goal.decreases-read_call
decreases-read_call l = l.depth * weight l.self.now.decls.now

abbrev pub decreases-read_scan : goal.decreases-read_scan
decreases-read_scan l = l.depth * weight l.self.now.decls.now + (4 * size-Term l.inner.now + 2)

abbrev pub decreases-search : goal.decreases-search
decreases-search l = l.depth * weight l.self.now.decls.now + (4 * size-Term l.inner.now + 1)

abbrev pub invariant-read_struct-loop-part : goal.invariant-read_struct-loop-part
invariant-read_struct-loop-part l =
    let f = reads_part l.self.record l.self.decls.now l.depth in
    record {
      done : List Done;
      parts : take l.part-index l.parts ≡ parts_of done;
      values : l.fields.values.items ≡ kept_of done;
      env : l.env.pairs ≡ env_of done l.initial.env.pairs;
      follows : Follows (in_turn (map f l.parts) l.initial.env.pairs l.place) l.place (values_of done) l.fields.pds.items l.fields.place
          (in_turn (map f (drop l.part-index l.parts)) l.env.pairs l.fields.place);
      from : l.place ≤ l.fields.place;
      to : l.fields.place ≤ length l.self.record.bytes.now;
      values_count : vec_len l.fields.values ≡ l.part-index;
      pds_count : vec_len l.fields.pds ≡ l.part-index;
      values_room : vec_capacity l.fields.values ≡ length l.parts;
      pds_room : vec_capacity l.fields.pds ≡ length l.parts;
      within : l.part-index ≤ length l.parts;
    }

abbrev pub invariant-read_alt-loop-number : goal.invariant-read_alt-loop-number
invariant-read_alt-loop-number l =
    let f = reads_arm l.self.record l.self.decls.now l.depth in
    record {
      env : l.env.pairs ≡ l.initial.env.pairs;
      rest : alt_from l.self.record.origin 0 (map f l.arms) l.initial.env.pairs l.place
          ≡ alt_from l.self.record.origin l.number (map f (drop l.number l.arms)) l.initial.env.pairs l.place;
    }

abbrev pub invariant-search-loop-at : goal.invariant-search-loop-at
invariant-search-loop-at l =
    let f = reads l.self.record l.self.decls.now l.depth l.inner in
    record {
      env : l.env.pairs ≡ l.fn.env.pairs;
      rest : scan (subject_of l.self.record) f l.fn.env.pairs l.place
          ≡ scan_from l.self.record.origin (l.last + 1 - l.at) f l.fn.env.pairs l.place l.at;
    }

abbrev pub invariant-read_seq-elements : goal.invariant-read_seq-elements
invariant-read_seq-elements l =
    let s = reads_seq l.self.record l.self.decls.now l.depth l.seq in
    let bytes = l.self.record.bytes.now in
    record {
      env : l.env.pairs ≡ l.initial.env.pairs;
      kept : Kept bytes s l.size l.initial.env.pairs (elements bytes s l.size l.initial.env.pairs (turns_from bytes l.place) [] l.place) l.place
          l.run.values l.run.pds l.run.place;
      turns : length l.run.values + l.place ≤ l.run.place + 1;
      from : l.place ≤ l.run.place;
      to : l.run.place ≤ length bytes;
    }

abbrev pub decreases-read_seq-elements : goal.decreases-read_seq-elements
decreases-read_seq-elements l = length l.self.record.bytes.now + 2 - l.place - length l.run.values
