-- `==` decides whether two calls, or two replies, are the same.
use Rattle.std.proofs.Common.{rules, ℕ, Bool, Option, ap}
use Rattle.std.proofs.lemmas.Bool.Decides.{Decides-eqb as number, Decides-int_eq as offset}
use Rattle.std.proofs.lemmas.Slice.Eq.{bytes_eq-Decides as text}
use Rattle.std.specs.Cmp.{booleans_Decides as flag}
use Rattle.std.specs.Cmp.Lexicographic.{pointwise_decides}
use Rattle.ft_path.specs.contracts.errno.Errno.{the_type as errno}
use Rattle.ft_cells.specs.contracts.node.Kind.{the_type as kind}
use Rattle.ft_cells.specs.contracts.open_file.AccessMode.{the_type as access_mode}
use Rattle.ft_posix.specs.contracts.call.Whence.{the_type as whence}
use Rattle.ft_posix.specs.declared.call.OpenFlags.{OpenFlags}
use Rattle.ft_posix.specs.contracts.call.OpenFlagsPartialEq.TheImpl.{ghosts as for_flags}
use Rattle.ft_posix.specs.declared.call.FileInfo.{FileInfo}
use Rattle.ft_posix.specs.contracts.call.FileInfoPartialEq.TheImpl.{ghosts as for_info}
use Rattle.ft_posix.specs.contracts.call.Call.{enum as calls}
use Rattle.ft_posix.specs.contracts.call.CallPartialEq.TheImpl.{ghosts as for_calls}
use Rattle.ft_posix.specs.contracts.call.Reply.{enum as replies}
use Rattle.ft_posix.specs.contracts.call.ReplyPartialEq.TheImpl.{ghosts as for_replies}
use Rattle.ft_cells.specs.declared.attributes.Attributes.{Attributes}
use Rattle.ft_cells.specs.declared.attributes.Timestamp.{Timestamp}
use Rattle.ft_cells.specs.contracts.attributes.AttributesPartialEq.TheImpl.{ghosts as for_attributes}
use Rattle.ft_cells.specs.contracts.attributes.TimestampPartialEq.TheImpl.{ghosts as for_times}
use Rattle.ft_core.proofs.Deciding.{Decided, no_field, field, field_and, optional, bare, variants}

attributes : Decided for_attributes.eq
attributes x y = search rules

time : Decided for_times.eq
time x y = search rules

abbrev flags_fields : OpenFlags → access_mode.D × (Bool × (Bool × (Bool × (Bool × (Option ℕ × Unit {0})))))
flags_fields f = (f.access, (f.create, (f.excl, (f.trunc, (f.append, (f.mode, tt))))))

abbrev flags_from : access_mode.D × (Bool × (Bool × (Bool × (Bool × (Option ℕ × Unit {0}))))) → OpenFlags
flags_from f = record { access = f.0; create = f.1.0; excl = f.1.1.0; trunc = f.1.1.1.0; append = f.1.1.1.1.0; mode = f.1.1.1.1.1.0 }

flags : Decided for_flags.eq
flags x y =
    let each = field_and (bare access_mode tt) (field_and flag (field_and flag (field_and flag (field_and flag (field (optional number)))))) (flags_fields x) (flags_fields y) in
    (λ is. ap flags_from (each.0 is), λ is. each.1 (ap flags_fields is))

abbrev info_fields : FileInfo → kind.D × (ℕ × (ℕ × (ℕ × (Option Attributes × (Option Timestamp × Unit {0})))))
info_fields i = (i.kind, (i.number, (i.links, (i.size, (i.attributes, (i.time, tt))))))

abbrev info_from : kind.D × (ℕ × (ℕ × (ℕ × (Option Attributes × (Option Timestamp × Unit {0}))))) → FileInfo
info_from i = record { kind = i.0; number = i.1.0; links = i.1.1.0; size = i.1.1.1.0; attributes = i.1.1.1.1.0; time = i.1.1.1.1.1.0 }

info : Decided for_info.eq
info x y =
    let each = field_and (bare kind tt) (field_and number (field_and number (field_and number (field_and (optional attributes) (field (optional time)))))) (info_fields x) (info_fields y) in
    (λ is. ap info_from (each.0 is), λ is. each.1 (ap info_fields is))

pub same_calls : Decided for_calls.eq
same_calls =
    variants calls _ (
      field_and text (field (optional number)),
      (
        field text,
        (
          field text,
          (
            field_and text (field flags),
            (
              field number,
              (
                field_and number (field number),
                (
                  field_and number (field text),
                  (
                    field_and number (field_and offset (field number)),
                    (
                      field_and number (field_and offset (field text)),
                      (
                        field_and number (field_and (bare whence tt) (field offset)),
                        (
                          field_and offset (field text),
                          (
                            field_and number (field offset),
                            (
                              field text,
                              (
                                field number,
                                (
                                  field_and text (field text),
                                  (
                                    field text,
                                    (
                                      field_and text (field text),
                                      (
                                        field_and text (field text),
                                        (
                                          field text,
                                          (
                                            field text,
                                            (
                                              field_and number (field text),
                                              (
                                                field_and number (field number),
                                                (
                                                  field_and (optional number) (field_and (optional number) (field text)),
                                                  (
                                                    field_and (optional number) (field_and (optional number) (field text)),
                                                    (
                                                      field_and number (field_and (optional number) (field (optional number))),
                                                      (
                                                        field_and time (field text),
                                                        (
                                                          field_and time (field text),
                                                          (
                                                            field_and number (field time),
                                                            tt,
                                                          ),
                                                        ),
                                                      ),
                                                    ),
                                                  ),
                                                ),
                                              ),
                                            ),
                                          ),
                                        ),
                                      ),
                                    ),
                                  ),
                                ),
                              ),
                            ),
                          ),
                        ),
                      ),
                    ),
                  ),
                ),
              ),
            ),
          ),
        ),
      ),
    )

pub same_replies : Decided for_replies.eq
same_replies =
    variants replies _ (
      no_field,
      (
        field (pointwise_decides (field_and text (bare kind tt))),
        (
          field number,
          (
            field text,
            (
              field info,
              (
                field (bare errno tt),
                tt,
              ),
            ),
          ),
        ),
      ),
    )
